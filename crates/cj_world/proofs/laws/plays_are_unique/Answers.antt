use Rattle.cj_world.proofs.Uniqueness.{one_world}
use Rattle.cj_world.proofs.laws.plays_are_unique.Goals as goal

pub returns : goal.returns
returns c = one_world c.pipeline_is_unique.ensures
