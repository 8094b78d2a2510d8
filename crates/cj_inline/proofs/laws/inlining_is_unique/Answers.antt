use Rattle.std.proofs.Common.{◌∙◌, sym}
use Rattle.cj_inline.proofs.laws.inlining_is_unique.Goals as goal

pub returns : goal.returns
returns c = λ P code call callee one other a b. a ∙ sym b
