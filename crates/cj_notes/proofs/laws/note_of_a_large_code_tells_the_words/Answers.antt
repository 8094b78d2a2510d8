use Rattle.cj_notes.proofs.Telling.{len_is}
use Rattle.cj_notes.proofs.laws.note_of_a_large_code_tells_the_words.Goals as goal

pub returns : goal.returns
returns c = λ P f level len s code h. len_is P f level len s code h
