use Rattle.cj_notes.proofs.Telling.{newer_there}
use Rattle.cj_notes.proofs.laws.later_version_was_seen.Goals as goal

pub returns : goal.returns
returns c = λ P v f level mine found s made h. newer_there P v f level mine found s made h
