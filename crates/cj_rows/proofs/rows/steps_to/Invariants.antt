use Rattle.std.proofs.Common.{◌≡◌, ◌-◌}
use Rattle.cj_rows.specs.Rows.{steps_to}
use Rattle.cj_rows.proofs.GuardRows.{further}
use Rattle.cj_rows.proofs.rows.steps_to.Given as goal

abbrev pub invariant-loop-count : goal.invariant-loop-count
invariant-loop-count l = further l.count (steps_to l.code l.label (8 - l.count) l.at) ≡ steps_to l.code l.label 8 l.fn.from
