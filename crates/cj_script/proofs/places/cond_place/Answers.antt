use Rattle.std.proofs.Common.{sym, ◌∙◌}
use Rattle.cj_tokens.specs.Seen.{seen}
use Rattle.cj_script.proofs.Fails.{refused_fails}
use Rattle.cj_script.proofs.Naming.{cond_judged, no_cond_judged, no_label_judged}
use Rattle.cj_script.proofs.places.cond_place.Goals as goal

pub returns-in-None : goal.returns-in-None
returns-in-None c =
    refused_fails _ _ _ c.refused.ensures (no_label_judged c.args.function.now (seen c.args.number) (sym c.in-None.ensures.place))

pub returns-then-is_cond : goal.returns-then-is_cond
returns-then-is_cond c =
    cond_judged c.args.function.now (seen c.args.number) c.in-Some.place c.line_at.result.now (sym c.in-Some.ensures.place) c.line_at.ensures
    (sym c.is_cond.ensures ∙ c.if-is_cond.true)

pub returns-else-is_cond : goal.returns-else-is_cond
returns-else-is_cond c =
    refused_fails _ _ _ c.refused-else-is_cond.ensures
    (no_cond_judged c.args.function.now (seen c.args.number) c.in-Some.place c.line_at.result.now (sym c.in-Some.ensures.place) c.line_at.ensures
    (sym c.is_cond.ensures ∙ c.if-is_cond.false))
