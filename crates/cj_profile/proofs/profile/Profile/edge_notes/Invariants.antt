use Rattle.std.proofs.Common.{◌≡◌, length}
use Rattle.cj_profile.specs.Snapshots.{edge_loads, each_loads}
use Rattle.cj_profile.specs.Seats.{Belongs, IsSame, Adds}
use Rattle.cj_profile.proofs.profile.Profile.edge_notes.Given as goal

abbrev pub invariant-loop-label : goal.invariant-loop-label
invariant-loop-label l = record {
  own : Belongs l.self l.seat;
  same : IsSame l.fn.seat l.seat;
  count : length l.notes ≡ l.label;
  reads : Adds (each_loads (edge_loads l.f) 0 l.notes) l.fn.seat l.seat;
}
