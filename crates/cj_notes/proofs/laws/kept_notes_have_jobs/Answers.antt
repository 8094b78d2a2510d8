use Rattle.cj_notes.proofs.Telling.{kept_has_job}
use Rattle.cj_notes.proofs.laws.kept_notes_have_jobs.Goals as goal

pub returns : goal.returns
returns c = λ note. kept_has_job note
