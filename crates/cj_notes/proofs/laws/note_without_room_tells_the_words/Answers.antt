use Rattle.cj_notes.proofs.Telling.{need_is}
use Rattle.cj_notes.proofs.laws.note_without_room_tells_the_words.Goals as goal

pub returns : goal.returns
returns c = λ P f level next need s code h. need_is P f level next need s code h
