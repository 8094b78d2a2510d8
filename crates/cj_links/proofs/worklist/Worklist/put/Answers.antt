use Rattle.std.proofs.Common.{◌≡◌, ◌<◌, ◌%◌, ◌+◌, List, ◌∷◌, [], ◌++◌, true, false, Some, length, sym, ap, subst, ◌∙◌, refl, arith, ap₂, length-set}
use Rattle.std.specs.Prelude.{Contains, slice_get, slice_set}
use Rattle.cj_ir.specs.declared.language.Label.{Label}
use Rattle.cj_links.specs.Waiting.{Waiting, waiting, IsOrderly}
use Rattle.cj_links.specs.Slots.{window}
use Rattle.cj_links.proofs.Rings.{ring_more, ring_list_more, mark_within, mark_read, not_marked}
use Rattle.cj_links.proofs.Windows.{mod_within}
use Rattle.cj_links.proofs.worklist.Worklist.put.Goals as goal

pub bounds-items-at : goal.bounds-items-at
bounds-items-at c =
    let q = c.self.inside in
    let within = mark_within q.slots q.oldest q.count q.marks c.args.label.0 c.args.self.now.labels c.self.invariant
    (ap (λ (w : Waiting). w.labels) c.self.view_is) c.requires in
    omega (arith, ap length c.items.ensures, within)

marked : (c : goal.Then-items-at) → Contains c.args.self.now.list c.args.label
marked c =
    let q = c.self.inside in
    let within = mark_within q.slots q.oldest q.count q.marks c.args.label.0 c.args.self.now.labels c.self.invariant
    (ap (λ (w : Waiting). w.labels) c.self.view_is) c.requires in
    let at = mark_read q.marks c.items.result.now c.args.label.0 true c.items.ensures within c.if-items-at.true in
    subst (λ (w : Waiting). Contains w.list c.args.label) c.self.view_is (c.self.invariant.marks_of.listed c.args.label at)

pub returns-then-items-at-clause-waited : goal.returns-then-items-at-clause-waited
returns-then-items-at-clause-waited c = (λ e. marked c, λ h. refl)

pub returns-then-items-at-clause-orderly : goal.returns-then-items-at-clause-orderly
returns-then-items-at-clause-orderly c = subst IsOrderly c.self.view_is c.self.invariant.orderly

pub nonzero_rem-free : goal.nonzero_rem-free
nonzero_rem-free c = omega (arith, ap length c.items-2.ensures, ap (λ (w : Waiting). w.labels) c.self.view_is, c.requires)

pub set-requires : goal.set-requires
set-requires c =
    let q = c.self.inside in
    let same : length c.items-2.result.now ≡ length q.slots = ap length c.items-2.ensures in
    let size : length q.slots ≡ c.args.self.now.labels = ap (λ (w : Waiting). w.labels) c.self.view_is in
    let some : 0 < length c.items-2.result.now = omega (arith, same, size, c.requires) in
    let below = mod_within (length c.items-2.result.now) (q.oldest + q.count) some in
    omega (arith, below, some, same)

pub set-requires-2 : goal.set-requires-2
set-requires-2 c =
    let q = c.self.inside in
    mark_within q.slots q.oldest q.count q.marks c.args.label.0 c.args.self.now.labels c.self.invariant
    (ap (λ (w : Waiting). w.labels) c.self.view_is) c.requires

unmarked : (c : goal.After-self-1) → slice_get c.self.inside.marks c.args.label.0 ≡ Some false
unmarked c =
    let q = c.self.inside in
    let within = mark_within q.slots q.oldest q.count q.marks c.args.label.0 c.args.self.now.labels c.self.invariant
    (ap (λ (w : Waiting). w.labels) c.self.view_is) c.requires in
    mark_read q.marks c.items.result.now c.args.label.0 false c.items.ensures within c.if-items-at.false

pub invariant_of-self : goal.invariant_of-self
invariant_of-self c =
    let q = c.self.inside in
    let free = (q.oldest + q.count) % length q.slots in
    let slot : c.set.new.self ≡ slice_set q.slots free c.args.label = c.set.ensures
    ∙ ap (λ (xs : List Label). slice_set q.slots ((q.oldest + q.count) % length xs) c.args.label) c.items-2.ensures in
    rw (slot, c.set-2.ensures) (ring_more q.slots q.oldest q.count q.marks c.args.label c.self.invariant (unmarked c))

list_more : (c : goal.After-self-1) → window c.self.inside.oldest (c.self.inside.count + 1) c.set.new.self ≡ c.args.self.now.list ++ c.args.label ∷ []
list_more c =
    let q = c.self.inside in
    let free = (q.oldest + q.count) % length q.slots in
    let slot : c.set.new.self ≡ slice_set q.slots free c.args.label = c.set.ensures
    ∙ ap (λ (xs : List Label). slice_set q.slots ((q.oldest + q.count) % length xs) c.args.label) c.items-2.ensures in
    ap (λ (xs : List Label). window q.oldest (q.count + 1) xs) slot
    ∙ ring_list_more q.slots q.oldest q.count q.marks c.args.label c.self.invariant (unmarked c)
    ∙ ap (λ (w : Waiting). w.list ++ c.args.label ∷ []) c.self.view_is

pub returns-clause-waited : goal.returns-clause-waited
returns-clause-waited c =
    let q = c.self.inside in (
      λ e. cc,
      λ h. absurd
          (not_marked (window q.oldest q.count q.slots) q.marks c.args.label c.self.invariant.marks_of (unmarked c)
          (subst (λ (w : Waiting). Contains w.list c.args.label) (sym c.self.view_is) h)),
    )

size_kept : (c : goal.After-self-1) → length c.set.new.self ≡ c.args.self.now.labels
size_kept c = ap length c.set.ensures ∙ length-set c.self.inside.slots _ c.args.label ∙ ap (λ (w : Waiting). w.labels) c.self.view_is

pub returns-clause-added : goal.returns-clause-added
returns-clause-added c = λ e. ap₂ waiting (size_kept c) (list_more c)

pub returns-clause-orderly : goal.returns-clause-orderly
returns-clause-orderly c = (invariant_of-self c).orderly
