use Rattle.cj_records.proofs.Showing.{cold_is_heeded}
use Rattle.cj_records.proofs.laws.cold_is_heeded.Goals as goal

pub returns : goal.returns
returns c = λ f label edge rs m n h. cold_is_heeded f label edge rs m n h
