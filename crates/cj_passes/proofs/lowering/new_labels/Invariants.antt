use Rattle.std.proofs.Common.{◌≡◌, take}
use Rattle.std.specs.Prelude.{count_by}
use Rattle.cj_passes.specs.Lowering.{renumbered}
use Rattle.cj_rows.specs.Tables.{IsTable}
use Rattle.cj_passes.proofs.lowering.new_labels.Given as goal

abbrev pub invariant-loop-keeps : goal.invariant-loop-keeps
invariant-loop-keeps l = record {
  number : l.number ≡ count_by (λ keeps. keeps) (take l.keeps-index l.kept);
  labels : IsTable (renumbered l.kept) l.keeps-index l.labels;
}
