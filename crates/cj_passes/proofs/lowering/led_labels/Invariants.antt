use Rattle.cj_passes.specs.Lowering.{led}
use Rattle.cj_rows.specs.Tables.{IsTable}
use Rattle.cj_passes.proofs.lowering.led_labels.Given as goal

abbrev pub invariant-loop-label : goal.invariant-loop-label
invariant-loop-label l = IsTable (led l.code l.kept) l.label l.labels
