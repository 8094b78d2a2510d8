use Rattle.cj_records.proofs.Showing.{guess_is_guarded}
use Rattle.cj_records.proofs.laws.guess_is_guarded.Goals as goal

pub returns : goal.returns
returns c = λ f param value rs m n h. guess_is_guarded f param value rs m n h
