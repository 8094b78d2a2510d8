use Rattle.cj_machine.proofs.Going.{run_under_way}
use Rattle.cj_machine.proofs.laws.run_is_under_way.Goals as goal

pub returns : goal.returns
returns c = run_under_way
