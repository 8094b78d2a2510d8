use Rattle.cj_machine.proofs.Going.{run_grows}
use Rattle.cj_machine.proofs.laws.later_codes_keep_a_run.Goals as goal

pub returns : goal.returns
returns c = run_grows
