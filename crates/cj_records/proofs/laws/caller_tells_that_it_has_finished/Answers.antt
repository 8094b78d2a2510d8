use Rattle.cj_records.proofs.Showing.{caller_tells}
use Rattle.cj_records.proofs.laws.caller_tells_that_it_has_finished.Goals as goal

pub returns : goal.returns
returns c = λ P codes calls floor d h. caller_tells P codes calls floor d h
