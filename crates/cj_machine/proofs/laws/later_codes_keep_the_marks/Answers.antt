use Rattle.cj_machine.proofs.RunMarks.{marks_kept_whole}
use Rattle.cj_machine.proofs.laws.later_codes_keep_the_marks.Goals as goal

pub returns : goal.returns
returns c = λ P codes later looks call r report g. marks_kept_whole P call codes later looks r g report
