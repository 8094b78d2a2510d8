use Rattle.std.proofs.Common.{◌≡◌}
use Rattle.cj_profile.specs.Seats.{Belongs}
use Rattle.cj_test_threads.proofs.profile.enter.Given as goal

abbrev pub invariant-loop : goal.invariant-loop
invariant-loop l = record {
  own : Belongs l.profile l.seat;
  first : l.seat.first ≡ l.fn.seat.first;
}
