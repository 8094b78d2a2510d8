use Rattle.std.proofs.Common.{arith}
use Rattle.cj_const.specs.Search.{is_within}
use Rattle.cj_const.proofs.Meeting.{within-more, within-fails, within-all}
use Rattle.cj_const.proofs.search.is_within.Goals as goal

pub returns-then-not-agrees : goal.returns-then-not-agrees
returns-then-not-agrees c =
    within-fails c.args.row.now c.args.others.now c.loop-reg.reg _ _ c.agrees.result (is_within c.args.row.now c.args.others.now) c.loop-reg-test.true
    c.requires c.agrees.ensures c.if-not-agrees.true c.loop-reg.invariant

pub loop-reg-preserved : goal.loop-reg-preserved
loop-reg-preserved c =
    within-more c.args.row.now c.args.others.now c.loop-reg.reg _ _ c.agrees.result (is_within c.args.row.now c.args.others.now) c.loop-reg-test.true
    c.requires c.agrees.ensures c.if-not-agrees.false c.loop-reg.invariant

pub returns : goal.returns
returns c = within-all c.args.row.now c.args.others.now c.loop-reg.reg (is_within c.args.row.now c.args.others.now) (omega arith) c.loop-reg.invariant
