use Rattle.std.proofs.Common.{◌≡◌, sym, subst, List, rules}
use Rattle.std.specs.Prelude.{All}
use Rattle.std.specs.List.{AllZip}
use Rattle.cj_publish.specs.Seats.{view_of}
use Rattle.cj_roles.specs.declared.role.Slot.{Slot}
use Rattle.cj_roles.specs.Slots.{IsFor, HasEnded, SlotJoins}
use Rattle.cj_roles.specs.Roles.{roles_in}
use Rattle.cj_roles.proofs.Slotting.{all_join}
use Rattle.cj_roles.proofs.Standing.{are_for, all_ended, can_join, run_over, roles_ran}
use Rattle.cj_roles.proofs.run.run_all.Goals as goal

pub run_in_threads-requires-clause-store : goal.run_in_threads-requires-clause-store
run_in_threads-requires-clause-store g c κs within = run_over c.args.input.now c.args.callers c.args.workers c.args.warm c.args.store.now c.deal.new.store
    c.in_ok-slots.slots.items c.requires.prepared c.in_ok-slots.ensures c.requires.fits

pub run_in_threads-requires-clause-given : goal.run_in_threads-requires-clause-given
run_in_threads-requires-clause-given g c κs within = (
  view_of c.args.store.now.code_seat,
  roles_in c.args.callers c.args.workers,
  (let same : c.in_ok-slots.slots.items
      ≡ c.deref_mut.result.now = search rules in subst
      (λ (xs : List Slot). AllZip (IsFor c.deal.new.store.code c.deal.new.store.profile (view_of c.args.store.now.code_seat))
      (roles_in c.args.callers c.args.workers) xs) same
      (are_for c.args.input.now c.args.callers c.args.workers c.args.warm c.args.store.now c.deal.new.store c.in_ok-slots.slots.items c.requires.prepared
      c.in_ok-slots.ensures)),
)

pub join_all-requires-clause-store : goal.join_all-requires-clause-store
join_all-requires-clause-store g c = can_join c.args.input.now c.args.callers c.args.workers c.args.warm c.args.store.now c.deal.new.store
    c.in_ok-slots.slots.items c.requires.prepared c.in_ok-slots.ensures

pub join_all-requires-clause-slots : goal.join_all-requires-clause-slots
join_all-requires-clause-slots g c =
    let v = view_of c.args.store.now.code_seat in
    let roles = roles_in c.args.callers c.args.workers in
    let t = c.deal.new.store.code in
    let p = c.deal.new.store.profile in
    let calls = c.args.input.now.script.calls in
    let ended = all_ended c.args.input.now c.args.callers c.args.workers c.args.warm c.args.store.now c.deal.new.store c.in_ok-slots.slots.items
    c.requires.prepared c.in_ok-slots.ensures c.deref_mut.result.now c.run_in_threads.new.slots c.in_ok-slots.slots.len (search rules)
    c.in_ok-slots.slots.ok.0 c.run_in_threads.ensures in
    subst (All (SlotJoins t p)) (sym ended.0) (all_join calls t p v roles c.run_in_threads.new.slots ended.1)

pub returns : goal.returns
returns g c =
    let v = view_of c.args.store.now.code_seat in
    let roles = roles_in c.args.callers c.args.workers in
    let t = c.deal.new.store.code in
    let p = c.deal.new.store.profile in
    let calls = c.args.input.now.script.calls in
    let ended = all_ended c.args.input.now c.args.callers c.args.workers c.args.warm c.args.store.now c.deal.new.store c.in_ok-slots.slots.items
    c.requires.prepared c.in_ok-slots.ensures c.deref_mut.result.now c.run_in_threads.new.slots c.in_ok-slots.slots.len (search rules)
    c.in_ok-slots.slots.ok.0 c.run_in_threads.ensures in
    roles_ran c.args.input.now c.args.callers c.args.workers c.args.warm c.args.store.now c.deal.new.store c.in_ok-slots.slots.items c.requires.prepared
    c.in_ok-slots.ensures _ c.in_ok-answers.answers _ (subst (AllZip (HasEnded calls t p v) roles) (sym ended.0) ended.1) c.in_ok-answers.ensures
