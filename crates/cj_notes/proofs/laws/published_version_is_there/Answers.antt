use Rattle.cj_notes.proofs.Telling.{version_there}
use Rattle.cj_notes.proofs.laws.published_version_is_there.Goals as goal

pub returns : goal.returns
returns c = λ P v f level offset s skipped made h. version_there P v f level offset s skipped made h
