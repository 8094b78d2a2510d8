use Rattle.cj_parts.proofs.Calling.{ran_above}
use Rattle.cj_parts.proofs.laws.call_looks_above_what_was_seen.Goals as goal

pub returns : goal.returns
returns c = λ P call r v w old new floor ran seen. ran_above P call r v w old new floor ran seen
