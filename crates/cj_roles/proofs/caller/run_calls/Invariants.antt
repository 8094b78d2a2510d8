use Rattle.std.proofs.Common.{◌-◌, length}
use Rattle.cj_session.specs.Sessions.{IsReady, Stays}
use Rattle.cj_roles.proofs.Calling.{RunsSome}
use Rattle.cj_roles.proofs.caller.run_calls.Given as goal

abbrev pub invariant-loop-at : goal.invariant-loop-at
invariant-loop-at g l = record {
  ready : IsReady l.session;
  stays : Stays l.fn.session l.session;
  runs : RunsSome l.calls l.callers l.fn.first l.at l.reports.items l.fn.session l.session;
}

abbrev pub decreases-loop-at : goal.decreases-loop-at
decreases-loop-at g l = length l.calls - l.at
