use Rattle.std.proofs.Common.{◌∙◌, Some, arith}
use Rattle.cj_const.specs.Knowledge.{known}
use Rattle.cj_const.specs.Flow.{with_guards}
use Rattle.cj_const.proofs.FlowSteps.{guard-more, guard-fails, guards-all}
use Rattle.cj_const.proofs.flow.with_guards.Goals as goal

pub returns-then-not-with_guard-clause-leaves : goal.returns-then-not-with_guard-clause-leaves
returns-then-not-with_guard-clause-leaves c =
    guard-fails c.args.guards.now c.loop-guard.guard-index _ (known c.loop-guard.made) c.with_guard.new.row c.with_guard.result
    (with_guards c.args.guards.now (Some (known c.args.row.now))) c.loop-guard-test.true c.if-not-with_guard.true c.with_guard.ensures.leaves
    c.loop-guard.invariant.left

pub loop-guard-preserved : goal.loop-guard-preserved
loop-guard-preserved c = record {
  left = guard-more c.args.guards.now c.loop-guard.guard-index _ (known c.loop-guard.made) c.with_guard.new.row c.with_guard.result
      (with_guards c.args.guards.now (Some (known c.args.row.now))) c.loop-guard-test.true c.if-not-with_guard.false c.with_guard.ensures.leaves
      c.loop-guard.invariant.left;
  width = c.with_guard.ensures.width ∙ c.loop-guard.invariant.width;
}

pub returns-clause-leaves : goal.returns-clause-leaves
returns-clause-leaves c =
    guards-all c.args.guards.now c.loop-guard.guard-index (Some (known c.loop-guard.made)) (with_guards c.args.guards.now (Some (known c.args.row.now)))
    (omega arith) c.loop-guard.invariant.left
