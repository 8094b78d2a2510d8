use Rattle.cj_parts.proofs.Counting.{all_counted}
use Rattle.cj_parts.proofs.laws.each_mark_is_counted.Goals as goal

pub returns : goal.returns
returns c = λ marks rs h. all_counted marks rs h
