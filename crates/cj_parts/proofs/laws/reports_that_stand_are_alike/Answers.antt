use Rattle.cj_parts.proofs.Calling.{stand_alike}
use Rattle.cj_parts.proofs.laws.reports_that_stand_are_alike.Goals as goal

pub returns : goal.returns
returns c = λ P call r s n printed by h k run room. stand_alike P call r s n printed by h k run room
