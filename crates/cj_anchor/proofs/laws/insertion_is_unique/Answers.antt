use Rattle.cj_anchor.proofs.UniqueAnchors.{anchors_unique}
use Rattle.cj_anchor.proofs.laws.insertion_is_unique.Goals as goal

pub returns : goal.returns
returns c = anchors_unique
