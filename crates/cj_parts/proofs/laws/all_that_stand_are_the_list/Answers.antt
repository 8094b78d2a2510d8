use Rattle.cj_parts.proofs.Counting.{among_all}
use Rattle.cj_parts.proofs.laws.all_that_stand_are_the_list.Goals as goal

pub returns : goal.returns
returns c = λ xs ys h few. among_all xs ys h few
