use Rattle.std.proofs.Common.{◌≡◌, None}
use Rattle.cj_publish.specs.Seats.{view_of, Belongs, IsSame}
use Rattle.cj_test_threads.proofs.publish.crowd.turns.Given as goal

abbrev pub invariant-loop-round : goal.invariant-loop-round
invariant-loop-round l = record {
  own : Belongs l.shop.table.now l.seat;
  same : IsSame l.fn.seat l.seat;
  free : (view_of l.seat).claim ≡ None;
}
