use Rattle.std.proofs.Common.{◌≡◌, ◌∷◌, ◌<◌, ◌-◌, ◌+◌, ◌%◌, ℕ, List, [], Some, length, get_or, drop, ap, ap₂, sym, ◌∙◌, subst, refl, arith}
use Rattle.std.specs.Prelude.{slice_get}
use Rattle.std.proofs.lemmas.Option.{slice_get-get_or}
use Rattle.cj_ir.specs.declared.language.Label.{Label}
use Rattle.cj_links.specs.Waiting.{Waiting, waiting, IsOrderly}
use Rattle.cj_links.specs.Slots.{window}
use Rattle.cj_links.proofs.Rings.{ring_less, ring_list_less, ring_start, ring_within}
use Rattle.cj_links.proofs.worklist.Worklist.take.Goals as goal

pub returns-then-self-eq0-clause-label : goal.returns-then-self-eq0-clause-label
returns-then-self-eq0-clause-label c =
    let q = c.self.inside in
    ap (λ n. slice_get (window q.oldest n q.slots) 0) (sym c.if-self-eq0.true) ∙ ap (λ (w : Waiting). slice_get w.list 0) c.self.view_is

pub returns-then-self-eq0-clause-rest : goal.returns-then-self-eq0-clause-rest
returns-then-self-eq0-clause-rest c =
    let q = c.self.inside in
    let none : c.args.self.now ≡ waiting (length q.slots) [] = sym c.self.view_is
    ∙ ap (λ n. waiting (length q.slots) (window q.oldest n q.slots)) c.if-self-eq0.true in
    rw none refl

pub returns-then-self-eq0-clause-orderly : goal.returns-then-self-eq0-clause-orderly
returns-then-self-eq0-clause-orderly c = subst IsOrderly c.self.view_is c.self.invariant.orderly

-- the slot that is read
slot : (slots read : List Label) (k : ℕ) (x : Label) → read ≡ slots → k < length slots → get_or read k (record { 0 = 0 }) ≡ x → slice_get slots k ≡ Some x
slot slots read k x e h is =
    let zero_label : Label = record { 0 = 0 } in
    slice_get-get_or slots k zero_label h ∙ ap Some (ap (λ (xs : List Label). get_or xs k zero_label) (sym e) ∙ is)

pub set-requires : goal.set-requires
set-requires c =
    let q = c.self.inside in
    let some : 0 < q.count = omega arith in
    let x : Label = get_or c.items.result.now q.oldest (record { 0 = 0 }) in
    let at = slot q.slots c.items.result.now q.oldest x c.items.ensures (ring_start q.slots q.oldest q.count q.marks c.self.invariant some) refl in
    omega (arith, ring_within q.slots q.oldest q.count q.marks x c.self.invariant some at, c.self.invariant.lengths)

pub invariant_of-self : goal.invariant_of-self
invariant_of-self c =
    let q = c.self.inside in
    let some : 0 < q.count = omega arith in
    let x : Label = get_or c.items.result.now q.oldest (record { 0 = 0 }) in
    let at = slot q.slots c.items.result.now q.oldest x c.items.ensures (ring_start q.slots q.oldest q.count q.marks c.self.invariant some) refl in
    rw (c.items-2.ensures, c.set.ensures) (ring_less q.slots q.oldest q.count q.marks x c.self.invariant some at)

split : (c : goal.After-self-2-1) → c.args.self.now.list ≡ get_or c.items.result.now c.self.inside.oldest (record { 0 = 0 })
    ∷ window ((c.self.inside.oldest + 1) % length c.items-2.result.now) (c.self.inside.count - 1) c.self.inside.slots
split c =
    let q = c.self.inside in
    let some : 0 < q.count = omega arith in
    let x : Label = get_or c.items.result.now q.oldest (record { 0 = 0 }) in
    let at = slot q.slots c.items.result.now q.oldest x c.items.ensures (ring_start q.slots q.oldest q.count q.marks c.self.invariant some) refl in
    ap (λ (w : Waiting). w.list) (sym c.self.view_is)
    ∙ ring_list_less q.slots q.oldest q.count q.marks x c.self.invariant some at
    ∙ ap (λ (xs : List Label). x ∷ window ((q.oldest + 1) % length xs) (q.count - 1) q.slots) (sym c.items-2.ensures)

pub returns-clause-label : goal.returns-clause-label
returns-clause-label c = ap (λ (list : List Label). slice_get list 0) (sym (split c))

pub returns-clause-rest : goal.returns-clause-rest
returns-clause-rest c =
    ap₂ waiting (ap (λ (w : Waiting). w.labels) c.self.view_is) (ap (λ (list : List Label). drop 1 list) (sym (split c)))

pub returns-clause-orderly : goal.returns-clause-orderly
returns-clause-orderly c = (invariant_of-self c).orderly
