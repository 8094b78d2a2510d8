use Rattle.cj_notes.proofs.Telling.{by_level}
use Rattle.cj_notes.proofs.laws.code_of_a_job_is_by_its_level.Goals as goal

pub returns : goal.returns
returns c = λ P f s code skips. by_level P f s code skips
