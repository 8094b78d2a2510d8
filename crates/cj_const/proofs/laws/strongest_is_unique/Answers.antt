use Rattle.cj_const.proofs.SearchEnds.{strongest-one}
use Rattle.cj_const.proofs.laws.strongest_is_unique.Goals as goal

pub returns : goal.returns
returns c = strongest-one
