use Rattle.std.proofs.Common.{take, refl, arith}
use Rattle.cj_const.specs.Knowledge.{known}
use Rattle.cj_sparse.proofs.Holding.{held-none, held-more, held-fails, held-all}
use Rattle.cj_sparse.proofs.guards.may_hold.Goals as goal

pub loop-at-init : goal.loop-at-init
loop-at-init c = held-none (known c.args.row.now) c.args.guards.now

pub returns-then-not-may_follow : goal.returns-then-not-may_follow
returns-then-not-may_follow c =
    held-fails (known c.args.row.now) c.args.guards.now (take c.loop-at.at c.args.guards.now) c.loop-at.at _ c.may_follow.result c.loop-at-test.true refl
    c.may_follow.ensures c.if-not-may_follow.true c.loop-at.invariant

pub loop-at-preserved : goal.loop-at-preserved
loop-at-preserved c =
    held-more (known c.args.row.now) c.args.guards.now (take c.loop-at.at c.args.guards.now) c.loop-at.at _ c.may_follow.result c.loop-at-test.true refl
    c.may_follow.ensures c.if-not-may_follow.false c.loop-at.invariant

pub returns : goal.returns
returns c = held-all (known c.args.row.now) c.args.guards.now c.loop-at.at (omega arith) c.loop-at.invariant
