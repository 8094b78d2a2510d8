use Rattle.cj_draft.proofs.BaseSound.{base_sound}
use Rattle.cj_draft.proofs.laws.base_body_is_sound.Goals as goal

pub returns : goal.returns
returns c = λ P context f well_formed inside. base_sound P well_formed f inside context
