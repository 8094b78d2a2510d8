use Rattle.std.proofs.Common.{◌∙◌, sym}
use Rattle.cj_const.proofs.Rows.{constants_within}
use Rattle.cj_const.proofs.knowledge.evaluated.Goals as goal

pub eval-requires : goal.eval-requires
eval-requires c = constants_within 0 c.args.expr.now (sym c.are_constants.ensures ∙ c.if-not-are_constants.false)
