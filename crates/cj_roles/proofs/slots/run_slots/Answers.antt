use Rattle.std.proofs.Common.{◌≡◌, length, subst, rules}
use Rattle.cj_roles.specs.declared.role.Slot.{Slot}
use Rattle.cj_roles.specs.Slots.{SlotEnds}
use Rattle.cj_roles.proofs.Slotting.{fits_at, all_end}
use Rattle.cj_roles.proofs.slots.run_slots.Goals as goal

pub for_each_mut-requires-clause-accepts : goal.for_each_mut-requires-clause-accepts
for_each_mut-requires-clause-accepts g c κs within = λ i p lt e. (
  c.requires.run,
  fits_at c.args.shared.now.code.now c.args.shared.now.profile.now c.requires.given.0 c.requires.given.1 c.args.slots.now c.requires.given.2
      i p.now lt e,
)

pub returns : goal.returns
returns g c = λ v roles zip.
    let t = c.args.shared.now.code.now in
    let p = c.args.shared.now.profile.now in
    let calls = c.args.shared.now.calls.now in
    let len : length c.for_each_mut.new.s ≡ length c.args.slots.now = search rules in
    all_end calls t p v roles c.args.slots.now c.for_each_mut.new.s zip len
    (λ i d lt. let h = (c.for_each_mut.ensures i d lt).1 in subst (λ (y : Slot × Slot). SlotEnds calls t p y.0 y.1)
    (λ k. (h.argument_is k, h.left k)) h.call)
