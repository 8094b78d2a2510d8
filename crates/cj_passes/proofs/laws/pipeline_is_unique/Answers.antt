use Rattle.cj_passes.proofs.Unique.{pipeline_unique}
use Rattle.cj_passes.proofs.laws.pipeline_is_unique.Goals as goal

pub returns : goal.returns
returns c = pipeline_unique c.insertion_is_unique.ensures c.lowering_is_unique.ensures c.delayed_is_unique.ensures c.folding_is_unique.ensures
