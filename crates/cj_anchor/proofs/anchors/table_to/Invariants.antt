use Rattle.cj_draft.specs.Edges.{led_to}
use Rattle.cj_rows.specs.Tables.{IsTable}
use Rattle.cj_anchor.proofs.anchors.table_to.Given as goal

abbrev pub invariant-loop-from : goal.invariant-loop-from
invariant-loop-from l = IsTable (led_to l.label l.anchor) l.from l.table
