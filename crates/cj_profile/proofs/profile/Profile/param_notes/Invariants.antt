use Rattle.std.proofs.Common.{◌≡◌, length}
use Rattle.cj_profile.specs.Snapshots.{param_loads, each_loads}
use Rattle.cj_profile.specs.Seats.{Belongs, IsSame, Adds}
use Rattle.cj_profile.proofs.profile.Profile.param_notes.Given as goal

abbrev pub invariant-loop-param : goal.invariant-loop-param
invariant-loop-param l = record {
  own : Belongs l.self l.seat;
  same : IsSame l.fn.seat l.seat;
  count : length l.notes ≡ l.param;
  reads : Adds (each_loads (param_loads l.f) 0 l.notes) l.fn.seat l.seat;
}
