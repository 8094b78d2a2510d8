use Rattle.std.proofs.Common.{◌∙◌, sym}
use Rattle.cj_assume.proofs.laws.immediate_is_unique.Goals as goal

pub returns : goal.returns
returns c = λ code anchor guards one other a b. a ∙ sym b
