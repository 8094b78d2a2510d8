use Rattle.cj_world.proofs.Uniqueness.{one_answer}
use Rattle.cj_world.proofs.laws.answers_are_unique.Goals as goal

pub returns : goal.returns
returns c = one_answer c.pipeline_is_unique.ensures
