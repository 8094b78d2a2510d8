use Rattle.cj_notes.proofs.Telling.{own_snapshot}
use Rattle.cj_notes.proofs.laws.work_reads_its_own_snapshot.Goals as goal

pub returns : goal.returns
returns c = λ P note j rs e h. own_snapshot P note j rs e h
