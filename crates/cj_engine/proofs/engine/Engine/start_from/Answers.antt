use Rattle.cj_machine.specs.Machines.{state_of}
use Rattle.cj_engine.proofs.engine.Engine.start_from.Goals as goal

pub returns-clause-no_turns : goal.returns-clause-no_turns
unfolding state_of
returns-clause-no_turns g c = c.in_ok-runner.ensures.no_turns
