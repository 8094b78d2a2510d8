use Rattle.std.proofs.Common.{◌+◌, arith}
use Rattle.cj_base.proofs.RunLemmas.{over_stays}
use Rattle.cj_base.proofs.laws.ended_run_stays.Goals as goal

pub returns : goal.returns
returns c = λ P call n k turns printed end e. over_stays P call n (n + k) turns printed end e (omega arith)
