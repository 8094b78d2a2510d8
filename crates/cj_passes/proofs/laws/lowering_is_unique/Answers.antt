use Rattle.cj_passes.proofs.UniqueLowering.{lowering_unique}
use Rattle.cj_passes.proofs.laws.lowering_is_unique.Goals as goal

pub returns : goal.returns
returns c = lowering_unique
