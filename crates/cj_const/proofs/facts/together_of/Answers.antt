use Rattle.std.proofs.Common.{arith}
use Rattle.cj_const.specs.Knowledge.{Knowledge, known}
use Rattle.cj_const.specs.Folding.{both}
use Rattle.cj_const.proofs.Joining.{known-in, below-more, below-none, both-at, clash-none, clash-more, together-clash, together-clear}
use Rattle.cj_const.proofs.facts.together_of.Goals as goal

pub loop-reg-init : goal.loop-reg-init
loop-reg-init c =
    let k : Knowledge = known c.args.one.now in
    let k' : Knowledge = known c.args.other.now in
    record { clear = clash-none k k'; facts = below-none (both k k') c.new-facts.result c.new-facts.ensures }

pub returns-then-differ : goal.returns-then-differ
returns-then-differ c =
    let k : Knowledge = known c.args.one.now in
    let k' : Knowledge = known c.args.other.now in
    let r = c.loop-reg.reg in
    together-clash k k' r c.args.regs c.known-mine.result c.known-others.result c.differ.result c.loop-reg-test.true
    (known-in c.items.result.now c.args.one.now r c.known-mine.result c.known-mine.ensures c.items.ensures)
    (known-in c.items-in-loop-reg.result.now c.args.other.now r c.known-others.result c.known-others.ensures c.items-in-loop-reg.ensures)
    c.differ.ensures c.if-differ.true

pub loop-reg-preserved : goal.loop-reg-preserved
loop-reg-preserved c =
    let k : Knowledge = known c.args.one.now in
    let k' : Knowledge = known c.args.other.now in
    let r = c.loop-reg.reg in
    let mine = known-in c.items.result.now c.args.one.now r c.known-mine.result c.known-mine.ensures c.items.ensures in
    let others = known-in c.items-in-loop-reg.result.now c.args.other.now r c.known-others.result c.known-others.ensures c.items-in-loop-reg.ensures in
    record {
      clear = clash-more k k' r c.known-mine.result c.known-others.result c.differ.result c.loop-reg.invariant.clear mine others c.differ.ensures
          c.if-differ.false;
      facts = below-more (both k k') r c.loop-reg.facts c.push_fact.new.facts c.or_else.result c.loop-reg.invariant.facts c.in_ok-push_fact.ensures
          (both-at k k' r c.known-mine.result c.known-others.result c.or_else.result mine others c.or_else.ensures);
    }

pub returns : goal.returns
returns c =
    together-clear (known c.args.one.now) (known c.args.other.now) c.loop-reg.reg c.args.regs c.loop-reg.facts
    (omega arith) c.loop-reg.invariant.clear c.loop-reg.invariant.facts
