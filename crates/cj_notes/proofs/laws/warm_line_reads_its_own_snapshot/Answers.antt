use Rattle.cj_notes.proofs.Telling.{warm_snapshot}
use Rattle.cj_notes.proofs.laws.warm_line_reads_its_own_snapshot.Goals as goal

pub returns : goal.returns
returns c = λ P note j rs e h. warm_snapshot P note j rs e h
