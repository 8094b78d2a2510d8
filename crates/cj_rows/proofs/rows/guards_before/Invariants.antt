use Rattle.std.proofs.Common.{◌≡◌, ◌≤◌}
use Rattle.cj_rows.specs.Rows.{steps_to, or_none, greatest}
use Rattle.cj_rows.proofs.rows.guards_before.Given as goal

abbrev pub invariant-loop-from : goal.invariant-loop-from
invariant-loop-from l = record {
  most : l.most ≡ greatest (λ from. or_none (steps_to l.fn.code l.fn.label 8 from)) l.from;
  few : l.most ≤ 8;
}
