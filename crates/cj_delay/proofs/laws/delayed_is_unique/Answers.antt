use Rattle.cj_delay.proofs.DelayedUnique.{delayed_unique}
use Rattle.cj_delay.proofs.laws.delayed_is_unique.Goals as goal

pub returns : goal.returns
returns c = delayed_unique
