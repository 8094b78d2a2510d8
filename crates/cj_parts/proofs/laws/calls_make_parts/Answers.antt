use Rattle.cj_parts.proofs.Calling.{both_parts}
use Rattle.cj_parts.proofs.laws.calls_make_parts.Goals as goal

pub returns : goal.returns
returns c = λ P call next r s u v w old mid new first second ok. both_parts P call next r s u v w old mid new first second ok
