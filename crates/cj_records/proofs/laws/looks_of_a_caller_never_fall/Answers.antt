use Rattle.cj_records.proofs.Showing.{caller_looks}
use Rattle.cj_records.proofs.laws.looks_of_a_caller_never_fall.Goals as goal

pub returns : goal.returns
returns c = λ P codes calls floor d h. caller_looks P codes calls floor d h
