use Rattle.std.proofs.Common.{sym, ◌∙◌}
use Rattle.cj_tokens.specs.Seen.{seen}
use Rattle.cj_script.proofs.Fails.{refused_fails}
use Rattle.cj_script.proofs.Naming.{callee_judged, count_judged}
use Rattle.cj_script.proofs.judge.callee.Goals as goal

pub returns-then-function_at-count : goal.returns-then-function_at-count
returns-then-function_at-count c =
    refused_fails _ _ _ c.refused.ensures
    (count_judged c.args.functions.now c.args.count (seen c.args.name) c.in_ok-id.id c.function_at.result.now c.in_ok-id.ensures.named
    (sym c.in_ok-id.ensures.function ∙ c.function_at.ensures) c.if-function_at-count.true)

pub returns : goal.returns
returns c =
    callee_judged c.args.functions.now c.args.count (seen c.args.name) c.in_ok-id.id c.function_at.result.now c.in_ok-id.ensures.named
    (sym c.in_ok-id.ensures.function ∙ c.function_at.ensures) c.if-function_at-count.false
