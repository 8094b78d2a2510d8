-- Facts and the lists of registers that satisfy them.
use Rattle.std.proofs.Common.{◌≡◌, ◌≢◌, ℕ, suc, ◌<◌, ◌⊎◌, List, [], ◌∷◌, length, map, replicate, refl, sym, ap, ap₂, ◌∙◌, subst, arith, inl, inr, ⊎_elim}
use Rattle.std.proofs.Common.{length-set}
use Rattle.std.specs.Prelude.{ℤ, pos, ◌+ℤ◌, All, slice_index_or, slice_set, ⊤}
use Rattle.std.specs.List.{Contains, AllPairs}
use Rattle.std.specs.List.Sorted.{IsStrictlyIncreasing}
use Rattle.std.proofs.lemmas.List.{length-map, length-replicate, get_or-replicate, get_or-set_same, get_or-set_other}
use Rattle.std.proofs.lemmas.List.Kept.{AllPairs-from_increasing}
use Rattle.std.proofs.lemmas.List.Elements.{All-contains, All-cons, All-nil, All-tail, All-head, All-weaker}
use Rattle.std.proofs.lemmas.Int.{ints}
use Rattle.std.proofs.Math.ListN.{get_or-map}
use Rattle.std.proofs.lemmas.Bool.{cases_eq}
use Rattle.cj_ir.specs.Values.{register}
use Rattle.cj_ir.proofs.Members.{all-from_contains}
use Rattle.cj_draft.specs.declared.facts.Fact.{Fact}
use Rattle.cj_draft.specs.declared.facts.Facts.{Facts}
use Rattle.cj_draft.specs.declared.facts.Facts.TheVariants.{Unreached, Known}
use Rattle.cj_draft.specs.WellNamed.{AreFactsFine, HasFineFacts}
use Rattle.cj_draft.specs.Arrives.{Satisfies, Allows}
use Rattle.cj_draft.specs.Sound.{AreAmong}

-- the registers with the facts' values set
unfoldable pub filled : List Fact → List ℤ → List ℤ
filled [] regs = regs
filled (x ∷ facts) regs = slice_set (filled facts regs) x.reg.0 x.value

pub length-filled : (facts : List Fact) (regs : List ℤ) → length (filled facts regs) ≡ length regs
unfolding filled
length-filled [] regs = refl
length-filled (x ∷ facts) regs = length-set (filled facts regs) x.reg.0 x.value ∙ length-filled facts regs

-- ---- facts of different registers

abbrev pub AllDiffer : List Fact → Type 0
AllDiffer [] = ⊤
AllDiffer (x ∷ facts) = All (λ y. y.reg.0 ≢ x.reg.0) facts × AllDiffer facts

abbrev numbers : List Fact → List ℕ
numbers facts = map (λ x. x.reg.0) facts

differ_from : (facts : List Fact) → AllPairs (λ x y. x < y) (numbers facts) → AllDiffer facts
differ_from [] rise = tt
differ_from (x ∷ facts) rise = (
  (λ k d h e.
      let low : x.reg.0 < slice_index_or (numbers facts) k d.reg.0 = rise 0 (suc k) d.reg.0 (omega arith)
      (omega (arith, length-map facts (λ (z : Fact). z.reg.0))) in
      let same = get_or-map (λ (z : Fact). z.reg.0) facts k d in
      omega arith),
  differ_from facts (λ i j d lt h. rise (suc i) (suc j) d (omega arith) (omega arith)),
)

pub differ-from_increasing : (facts : List Fact) → IsStrictlyIncreasing (map (λ x. x.reg.0) facts) → AllDiffer facts
differ-from_increasing facts up = differ_from facts (AllPairs-from_increasing (numbers facts) up)

-- ---- facts in range can be satisfied

filled_keeps : (x : Fact) (facts : List Fact) (regs : List ℤ) → All (λ y. y.reg.0 ≢ x.reg.0) facts → (all : List Fact) →
    ((y : Fact) → Contains facts y → register (filled all regs) y.reg.0 ≡ y.value) → (y : Fact) → Contains facts y →
    register (slice_set (filled all regs) x.reg.0 x.value) y.reg.0 ≡ y.value
filled_keeps x facts regs differ all h y c =
    get_or-set_other (filled all regs) x.reg.0 y.reg.0 x.value (pos 0) (All-contains (λ z. z.reg.0 ≢ x.reg.0) facts y differ c) ∙ h y c

pub filled_satisfies : (facts : List Fact) (regs : List ℤ) → AllDiffer facts → All (λ x. x.reg.0 < length regs) facts → Satisfies facts (filled facts regs)
unfolding filled
filled_satisfies [] regs differ within = All-nil (λ x. register regs x.reg.0 ≡ x.value)
filled_satisfies (x ∷ facts) regs differ within =
    let rest = filled_satisfies facts regs differ.1 (All-tail (λ y. y.reg.0 < length regs) x facts within) in
    let now = slice_set (filled facts regs) x.reg.0 x.value in
    let here : x.reg.0 < length (filled facts regs) = omega (arith, length-filled facts regs, All-head (λ y. y.reg.0 < length regs) x facts within) in
    All-cons (λ y. register now y.reg.0 ≡ y.value) x facts
    (get_or-set_same (filled facts regs) x.reg.0 x.value (pos 0) here)
    (all-from_contains (λ y. register now y.reg.0 ≡ y.value) facts
    (filled_keeps x facts regs differ.0 facts (λ y c. All-contains (λ z. register (filled facts regs) z.reg.0 ≡ z.value) facts y rest c)))

-- some list of registers satisfies them
pub satisfiable : (n : ℕ) (facts : List Fact) → AreFactsFine n facts → (regs : List ℤ) × (length regs ≡ n) × Satisfies facts regs
satisfiable n facts fine =
    let zeros : List ℤ = replicate n (pos 0) in
    let e : length zeros ≡ n = length-replicate n (pos 0) in (
      filled facts zeros,
      length-filled facts zeros ∙ e,
      filled_satisfies facts zeros (differ-from_increasing facts fine.increasing) (subst (λ k. All (λ x. x.reg.0 < k) facts) (sym e) fine.registers),
    )

-- ---- facts that others entail

filled_other : (facts : List Fact) (regs : List ℤ) (r : ℕ) → All (λ y. y.reg.0 ≢ r) facts → register (filled facts regs) r ≡ register regs r
unfolding filled
filled_other [] regs r differ = refl
filled_other (x ∷ facts) regs r differ =
    get_or-set_other (filled facts regs) x.reg.0 r x.value (pos 0) (λ e. All-head (λ y. y.reg.0 ≢ r) x facts differ (sym e))
    ∙ filled_other facts regs r (All-tail (λ y. y.reg.0 ≢ r) x facts differ)

abbrev HasFactOf : List Fact → ℕ → Type 0
HasFactOf facts r = (y : Fact) × Contains facts y × (y.reg.0 ≡ r)

-- a register has a fact, or all are of others
fact_of : (facts : List Fact) (r : ℕ) → HasFactOf facts r ⊎ All (λ y. y.reg.0 ≢ r) facts
fact_of [] r = inr (All-nil (λ y. y.reg.0 ≢ r))
fact_of (x ∷ facts) r = ⊎_elim
    (λ e. inl (x, (0, omega arith, refl), e))
    (λ n. ⊎_elim
    (λ h. inl (h.0, (suc h.1.0, omega (arith, h.1.1), h.1.2), h.2))
    (λ all. inr (All-cons (λ y. y.reg.0 ≢ r) x facts n all))
    (fact_of facts r))
    (cases_eq x.reg.0 r)

next_differs : (v : ℤ) → v +ℤ pos 1 ≡ v → ⊥
next_differs v e = omega (arith, ints)

one_entailed : (n : ℕ) (known : List Fact) (x : Fact) → AreFactsFine n known → x.reg.0 < n →
    ((regs : List ℤ) → length regs ≡ n → Satisfies known regs → register regs x.reg.0 ≡ x.value) → Contains known x
one_entailed n known x fine within tells =
    let base : List ℤ = replicate n (x.value +ℤ pos 1) in
    let count : length base ≡ n = length-replicate n (x.value +ℤ pos 1) in
    let regs : List ℤ = filled known base in
    let satisfied : Satisfies known regs = filled_satisfies known base (differ-from_increasing known fine.increasing)
    (subst (λ k. All (λ y. y.reg.0 < k) known) (sym count) fine.registers) in
    let told : register regs x.reg.0 ≡ x.value = tells regs (length-filled known base ∙ count) satisfied in
    ⊎_elim
    (λ h.
    let value : h.0.value ≡ x.value = sym (All-contains (λ y. register regs y.reg.0 ≡ y.value) known h.0 satisfied h.1) ∙ ap (register regs) h.2 ∙ told in
    let same : h.0 ≡ x = ap₂ (λ (r : ℕ) (v : ℤ). fact r v) h.2 value in
    subst (Contains known) same h.1)
    (λ differ.
    absurd (next_differs x.value (sym (get_or-replicate n x.reg.0 (x.value +ℤ pos 1) (pos 0) within) ∙ sym (filled_other known base x.reg.0 differ) ∙ told)))
    (fact_of known x.reg.0)
  where
    fact : ℕ → ℤ → Fact
    fact r v = record { reg = record { 0 = r }; value = v }

-- facts that hold of every list of registers which satisfies the known ones are among these
pub entailed : (n : ℕ) (known facts : List Fact) → AreFactsFine n known → All (λ x. x.reg.0 < n) facts →
    ((regs : List ℤ) → length regs ≡ n → Satisfies known regs → Satisfies facts regs) → All (Contains known) facts
entailed n known facts fine within tells = all-from_contains (Contains known) facts (λ x c.
    one_entailed n known x fine (All-contains (λ y. y.reg.0 < n) facts x within c)
    (λ regs count satisfied. All-contains (λ y. register regs y.reg.0 ≡ y.value) facts x (tells regs count satisfied) c))

-- Facts that hold wherever facts of the context hold are of the context.
pub among-allowed : (n : ℕ) (context : List Fact) (old new : Facts) → AreAmong context old → HasFineFacts n old → HasFineFacts n new →
    ((regs : List ℤ) → length regs ≡ n → Allows old regs → Allows new regs) → AreAmong context new
among-allowed n context Unreached new among fine fine' h = absurd among
among-allowed n context (Known old) Unreached among fine fine' h = let found = satisfiable n old fine in h found.0 found.1 found.2
among-allowed n context (Known old) (Known new) among fine fine' h =
    All-weaker (Contains old) (Contains context) (λ x c. All-contains (Contains context) old x among c) new
    (entailed n old new fine fine'.registers h)
