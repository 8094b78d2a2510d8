use Rattle.cj_parts.proofs.Counting.{failure_asks}
use Rattle.cj_parts.proofs.laws.failures_ask_for_a_level.Goals as goal

pub returns : goal.returns
returns c = λ f rs h. failure_asks f rs h
