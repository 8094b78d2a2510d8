use Rattle.std.proofs.Common.{◌∙◌, sym, ap}
use Rattle.cj_const.specs.Folding.{folded}
use Rattle.cj_const.proofs.SearchEnds.{strongest-one}
use Rattle.cj_const.proofs.laws.folding_is_unique.Goals as goal

pub returns : goal.returns
returns c = λ context code one other a b.
    a.2 ∙ ap (folded code) (strongest-one context code a.0 b.0 a.1 b.1) ∙ sym b.2
