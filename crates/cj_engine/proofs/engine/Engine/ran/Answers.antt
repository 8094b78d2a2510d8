use Rattle.std.proofs.Common.{refl}
use Rattle.cj_machine.specs.Machines.{state_of}
use Rattle.cj_machine.specs.VersionRuns.{report_of}
use Rattle.cj_engine.proofs.engine.Engine.ran.Goals as goal

pub returns-clause-report : goal.returns-clause-report
unfolding report_of state_of
returns-clause-report c = rw (← c.self.view_is) refl

pub returns-clause-memory : goal.returns-clause-memory
unfolding state_of
returns-clause-memory c = rw (← c.self.view_is) refl
