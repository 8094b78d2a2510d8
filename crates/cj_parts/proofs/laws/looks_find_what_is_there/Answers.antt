use Rattle.cj_parts.proofs.Rising.{looks_are_found}
use Rattle.cj_parts.proofs.laws.looks_find_what_is_there.Goals as goal

pub returns : goal.returns
returns c = λ v looks ok e. looks_are_found v looks ok e
