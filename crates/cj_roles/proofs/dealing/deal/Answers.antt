use Rattle.std.proofs.Common.{◌≡◌, ◌≤◌, rules}
use Rattle.cj_roles.proofs.Dealt.{deal_none, deal_caller, deal_callers, deal_worker, few_callers, few_workers}
use Rattle.cj_roles.proofs.dealing.deal.Goals as goal

pub loop-first-init : goal.loop-first-init
loop-first-init c = deal_none c.args.store.now c.args.callers c.new-slots.result.items c.new-slots.ensures.items c.requires.store

pub add_role-requires-clause-splits : goal.add_role-requires-clause-splits
add_role-requires-clause-splits c = few_callers c.args.store.now c.loop-first.store c.args.callers c.loop-first.first c.loop-first.slots.items
    c.loop-first.invariant c.requires.splits (let few : c.loop-first.first ≤ 4 = search rules in few)

pub loop-first-preserved : goal.loop-first-preserved
loop-first-preserved c = deal_caller c.args.store.now c.loop-first.store c.add_role.new.store c.args.callers c.loop-first.first c.loop-first.slots.items _
    c.loop-first.invariant c.in_ok-add_role.ensures

pub loop-worker-init : goal.loop-worker-init
loop-worker-init c = deal_callers c.args.store.now c.loop-first.store c.args.callers c.loop-first.first c.loop-first.slots.items (let same : c.loop-first.first
    ≡ c.args.callers = search rules in same) c.loop-first.invariant

pub add_role-requires-in-loop-worker-clause-store : goal.add_role-requires-in-loop-worker-clause-store
add_role-requires-in-loop-worker-clause-store c = c.loop-worker.invariant.split.can

pub add_role-requires-in-loop-worker-clause-splits : goal.add_role-requires-in-loop-worker-clause-splits
add_role-requires-in-loop-worker-clause-splits c =
    few_workers c.args.store.now c.loop-worker.store c.args.callers c.loop-worker._worker c.loop-worker.slots.items c.loop-worker.invariant c.requires.splits
    c.requires.few.0 (let few : c.loop-worker._worker ≤ 4 = search rules in few)

pub loop-worker-preserved : goal.loop-worker-preserved
loop-worker-preserved c = deal_worker c.args.store.now c.loop-worker.store c.add_role-in-loop-worker.new.store c.args.callers c.loop-worker._worker
    c.loop-worker.slots.items _ c.loop-worker.invariant c.in_ok-add_role-2.ensures

pub returns : goal.returns
returns c = let all : c.loop-worker._worker ≡ c.args.workers = search rules in rw (← all) c.loop-worker.invariant
