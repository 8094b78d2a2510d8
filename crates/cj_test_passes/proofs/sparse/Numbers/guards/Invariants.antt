use Rattle.std.proofs.Common.{◌≤◌, length}
use Rattle.std.specs.Prelude.{All}
use Rattle.cj_draft.specs.WellNamed.{IsGuardWithin}
use Rattle.cj_test_passes.proofs.sparse.Numbers.guards.Given as goal

abbrev pub invariant-loop-guard : goal.invariant-loop-guard
invariant-loop-guard l = record {
  within : All (IsGuardWithin 4) l.guards;
  few : length l.guards ≤ l._guard;
  end : l._guard ≤ 3;
}
