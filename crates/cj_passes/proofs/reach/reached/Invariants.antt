use Rattle.std.proofs.Common.{◌≤◌, ◌-◌, length}
use Rattle.std.specs.Prelude.{Contains}
use Rattle.cj_passes.specs.Lowering.{passed}
use Rattle.cj_passes.specs.Search.{IsSearch, AreFollowed}
use Rattle.cj_passes.proofs.reach.reached.Given as goal

abbrev pub invariant-loop-followed : goal.invariant-loop-followed
invariant-loop-followed l = record {
  search : IsSearch l.code l.search.kept l.search.found;
  entry : Contains l.search.found (passed l.code l.code.entry);
  followed : AreFollowed l.code l.search.found l.followed;
  within : l.followed ≤ length l.search.found;
}

abbrev pub decreases-loop-followed : goal.decreases-loop-followed
decreases-loop-followed l = length l.code.places - l.followed
