use Rattle.cj_records.proofs.Showing.{newest_at}
use Rattle.cj_records.proofs.laws.looks_find_the_newest_that_was_published.Goals as goal

pub returns : goal.returns
returns c = λ floor before r after h. newest_at floor before r after h
