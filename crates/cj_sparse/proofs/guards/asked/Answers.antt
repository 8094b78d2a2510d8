use Rattle.cj_sparse.specs.Holding.{asked}
use Rattle.cj_sparse.proofs.Holding.{asked-more, asked-here}
use Rattle.cj_sparse.proofs.guards.asked.Goals as goal

pub returns-then-is_some : goal.returns-then-is_some
returns-then-is_some c =
    asked-here c.args.guards.now c.loop-guard.guard-index _ c.args.reg.0 (asked c.args.guards.now c.args.reg.0) c.asked_by-found.result c.is_some.result
    c.loop-guard-test.true c.asked_by-found.ensures c.is_some.ensures c.if-is_some.true c.loop-guard.invariant

pub loop-guard-preserved : goal.loop-guard-preserved
loop-guard-preserved c =
    asked-more c.args.guards.now c.loop-guard.guard-index _ c.args.reg.0 (asked c.args.guards.now c.args.reg.0) c.asked_by-found.result c.is_some.result
    c.loop-guard-test.true c.asked_by-found.ensures c.is_some.ensures c.if-is_some.false c.loop-guard.invariant
