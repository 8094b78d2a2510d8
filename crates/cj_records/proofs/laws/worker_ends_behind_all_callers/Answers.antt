use Rattle.cj_records.proofs.Showing.{worker_waits}
use Rattle.cj_records.proofs.laws.worker_ends_behind_all_callers.Goals as goal

pub returns : goal.returns
returns c = λ P codes callers d h. worker_waits P codes callers d h
