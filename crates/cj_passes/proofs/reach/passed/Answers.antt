use Rattle.std.proofs.Common.{sym, ◌∙◌}
use Rattle.cj_passes.specs.Lowering.{passed}
use Rattle.cj_passes.proofs.Passing.{past_step}
use Rattle.cj_passes.proofs.reach.passed.Goals as goal

pub loop-step-preserved : goal.loop-step-preserved
loop-step-preserved c =
    past_step c.args.code.now c.loop-step._step c.loop-step.to c.in-Some.next (passed c.args.code.now c.args.label)
    c.loop-step-test.true (sym c.anchor_at.ensures ∙ c.in-Some.is) c.loop-step.invariant
