use Rattle.std.proofs.Common.{◌≡◌, ◌<◌, ◌≤◌, length, ap, arith}
use Rattle.cj_draft.specs.declared.code.Code.{Code}
use Rattle.cj_sparse.proofs.Lowering.{goes-self}
use Rattle.cj_sparse.proofs.SearchCalls.{row-none, row-some, reached-goes, arrive-step, arrive-told}
use Rattle.cj_sparse.proofs.search.Search.arrive.Goals as goal

pub returns-then-is_none-clause-goes : goal.returns-then-is_none-clause-goes
returns-then-is_none-clause-goes c =
    let draft = c.args.draft.now in
    let rows = c.args.self.now.rows.items in
    let inside : c.args.to.0 < length rows = omega (arith, c.requires.within, c.requires.begun.found.count) in
    reached-goes draft.context draft.code rows c.reach.new.self.rows.items c.args.self.now.work.items c.reach.new.self.work.items c.args.to c.args.arrival
    c.requires.begun c.requires.within c.requires.width c.requires.above
    (row-none rows c.args.to c.index.result.now c.is_none.result inside c.index.ensures c.is_none.ensures c.if-is_none.true)
    c.in_ok-reach.ensures.rows c.in_ok-reach.ensures.work

pub loop-reg-init : goal.loop-reg-init
loop-reg-init c =
    let draft = c.args.draft.now in
    let rows = c.args.self.now.rows.items in
    let inside : c.args.to.0 < length rows = omega (arith, c.requires.within, c.requires.begun.found.count) in
    let here = row-some rows c.args.to c.index.result.now c.is_none.result inside c.index.ensures c.is_none.ensures c.if-is_none.false in
    record {
      goes = goes-self draft.context draft.code rows c.args.self.now.work.items c.requires.begun;
      met = (here.0, here.1, λ r v h e. absurd (omega (arith, h)));
    }

pub loop-reg-preserved : goal.loop-reg-preserved
loop-reg-preserved c =
    let draft = c.args.draft.now in
    let before = c.loop-reg.self in
    let after = c.meet.new.self in
    let step = arrive-step draft.context draft.code c.args.self.now.rows.items before.rows.items after.rows.items c.args.self.now.work.items before.work.items
    after.work.items c.args.to (record { 0 = c.loop-reg.reg }) c.known.result c.args.arrival c.items.result.now c.requires.within c.requires.above
    c.loop-reg.invariant.goes c.loop-reg.invariant.met c.in_ok-meet.ensures c.known.ensures c.items.ensures in
    record { goes = step.0; met = step.1 }

pub returns-clause-told : goal.returns-clause-told
returns-clause-told c =
    let draft = c.args.draft.now in
    let regs : c.code.result.now.regs ≡ draft.code.regs = ap (λ (z : Code). z.regs) c.code.ensures.same in
    let all : draft.code.regs ≤ c.loop-reg.reg = omega (arith, c.loop-reg-test.false, regs) in
    arrive-told draft.context draft.code c.loop-reg.self.rows.items c.loop-reg.self.work.items c.args.to c.args.arrival c.loop-reg.reg
    c.loop-reg.invariant.goes.begun c.requires.within all c.loop-reg.invariant.met
