use Rattle.cj_base.proofs.RunLemmas.{one_end}
use Rattle.cj_base.proofs.laws.end_is_unique.Goals as goal

pub returns : goal.returns
returns c = one_end
