use Rattle.std.proofs.Common.{◌≤◌}
use Rattle.cj_test_passes.specs.Behind.{AreBehind}
use Rattle.cj_test_passes.proofs.sparse.behind.places.Given as goal

abbrev pub invariant-loop-at : goal.invariant-loop-at
invariant-loop-at l = record {
  behind : AreBehind l.point l.at l.places;
  end : l.at ≤ 15;
}
