use Rattle.cj_parts.proofs.Calling.{looks_on}
use Rattle.cj_parts.proofs.laws.calls_look_on.Goals as goal

pub returns : goal.returns
returns c = λ P call next r s u v w old mid new before first second ok e. looks_on P call next r s u v w old mid new first second ok before e
