use Rattle.std.proofs.Common.{take, map}
use Rattle.cj_base.specs.Run.{begun}
use Rattle.cj_session.specs.Versions.{AreKnown}
use Rattle.cj_alone.specs.Seats.{view_at, IsFree, AreSame}
use Rattle.cj_alone.specs.Rounds.{RoundsMade}
use Rattle.cj_alone.proofs.rounds.run_calls.Given as goal

abbrev pub invariant-loop-call : goal.invariant-loop-call
invariant-loop-call l = record {
  free : IsFree l.checked l.code l.profile l.so_far.0.seats;
  known : AreKnown l.checked (view_at l.so_far.0.seats) l.so_far.1;
  same : AreSame l.initial.so_far.0.seats l.so_far.0.seats;
  rounds : RoundsMade l.checked (map begun (take l.call-index l.calls)) l.initial.so_far.0 l.so_far.0;
}
