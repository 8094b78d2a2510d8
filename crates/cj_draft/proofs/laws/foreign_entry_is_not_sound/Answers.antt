use Rattle.cj_draft.proofs.laws.foreign_entry_is_not_sound.Goals as goal

pub returns : goal.returns
returns c = λ P context code place at foreign sound. foreign (sound.entry_facts place at)
