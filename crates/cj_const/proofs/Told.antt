-- Facts and what they tell.
use Rattle.std.proofs.Common.{◌≡◌, ◌≢◌, ℕ, zero, suc, ◌+◌, ◌<◌, ◌≤◌, List, [], ◌∷◌, ◌++◌, length, map, get_or, Option, Some, None, refl, sym, ap, ap₂, ◌∙◌}
use Rattle.std.proofs.Common.{subst, ⊎_elim, arith, length-append}
use Rattle.std.specs.Prelude.{ℤ, All, Contains, ⊤}
use Rattle.std.specs.List.Sorted.{IsStrictlyIncreasing}
use Rattle.std.proofs.Math.ListN.{get_or-append, get_or-map}
use Rattle.std.proofs.Math.Seq.{get_or-append_seam}
use Rattle.std.proofs.lemmas.Option.{none-some, same_Some}
use Rattle.std.proofs.lemmas.List.{length-map, map-append, append-nil}
use Rattle.std.proofs.lemmas.List.Kept.{AllPairs-from_increasing}
use Rattle.std.proofs.lemmas.List.Elements.{All-contains, All-map, Contains-append_left, Contains-append_right, Contains-append_cases}
use Rattle.std.specs.List.{AllPairs}
use Rattle.std.proofs.lemmas.Bool.{cases_eq}
use Rattle.cj_ir.proofs.Members.{contains-one, contains-none, contains-head, contains-tail, contains-cases, all-from_contains}
use Rattle.cj_draft.specs.declared.facts.Fact.{Fact}
use Rattle.cj_draft.specs.WellNamed.{AreFactsFine}
use Rattle.cj_draft.proofs.FactLists.{AllDiffer, differ-from_increasing}
use Rattle.cj_const.specs.Knowledge.{Knowledge, told_by}
use Rattle.cj_const.specs.Folding.{fact_if, facts_below}
use Rattle.cj_const.proofs.Rows.{told-first, told-rest}

abbrev pub fact : ℕ → ℤ → Fact
fact r v = record { reg = record { 0 = r }; value = v }

-- ---- items

-- ---- what is told is a fact

pub told-contains : (facts : List Fact) (r : ℕ) (v : ℤ) → told_by facts r ≡ Some v → Contains facts (fact r v)
unfolding told_by
told-contains [] r v e = absurd (none-some v e)
told-contains (x ∷ facts) r v e = ⊎_elim
    (λ same.
    let value : x.value ≡ v = same_Some x.value v (sym (told-first x facts r same) ∙ e) in
    let is : x ≡ fact r v = ap₂ fact same value in
    subst (Contains (x ∷ facts)) is (contains-head x facts))
    (λ other. contains-tail x (fact r v) facts (told-contains facts r v (sym (told-rest x facts r other) ∙ e)))
    (cases_eq x.reg.0 r)

-- a fact is told, where no two facts are of one register
pub contains-told : (facts : List Fact) (x : Fact) → AllDiffer facts → Contains facts x → told_by facts x.reg.0 ≡ Some x.value
contains-told [] x differ c = absurd (contains-none x c)
contains-told (y ∷ facts) x differ c = ⊎_elim
    (λ same. told-first y facts x.reg.0 (ap (λ (z : Fact). z.reg.0) same) ∙ ap (λ (z : Fact). Some z.value) same)
    (λ rest.
    let other : x.reg.0 ≢ y.reg.0 = All-contains (λ (z : Fact). z.reg.0 ≢ y.reg.0) facts x differ.0 rest in
    told-rest y facts x.reg.0 (λ e. other (sym e)) ∙ contains-told facts x differ.1 rest)
    (contains-cases y x facts c)

pub fine-told : (n : ℕ) (facts : List Fact) (x : Fact) → AreFactsFine n facts → Contains facts x → told_by facts x.reg.0 ≡ Some x.value
fine-told n facts x fine c = contains-told facts x (differ-from_increasing facts fine.increasing) c

-- ---- the facts of some knowledge

fact_if-in : (n : ℕ) (o : Option ℤ) (x : Fact) → Contains (fact_if n o) x → (x.reg.0 ≡ n) × (o ≡ Some x.value)
unfolding fact_if
fact_if-in n None x c = absurd (contains-none x c)
fact_if-in n (Some v) x c =
    let e : fact n v ≡ x = contains-one (fact n v) x c in
    (sym (ap (λ (z : Fact). z.reg.0) e), ap (λ (z : Fact). Some z.value) e)

pub below-in : (k : Knowledge) (n : ℕ) (x : Fact) → Contains (facts_below k n) x → (x.reg.0 < n) × (k x.reg.0 ≡ Some x.value)
unfolding facts_below
below-in k zero x c = absurd (contains-none x c)
below-in k (suc n) x c = ⊎_elim
    (λ old. let h = below-in k n x old in (omega (arith, h.0), h.1))
    (λ new. let h = fact_if-in n (k n) x new in (omega (arith, h.0), ap k h.0 ∙ h.1))
    (Contains-append_cases (facts_below k n) (fact_if n (k n)) x c)

pub in-below : (k : Knowledge) (n r : ℕ) (v : ℤ) → r < n → k r ≡ Some v → Contains (facts_below k n) (fact r v)
unfolding facts_below fact_if
in-below k zero r v h e = absurd (omega arith)
in-below k (suc n) r v h e = ⊎_elim
    (λ same.
    let here : Contains (fact_if n (k n)) (fact r v) = subst (λ o. Contains (fact_if n o) (fact r v)) (sym e ∙ ap k same)
    (subst (λ m. Contains (fact m v ∷ []) (fact r v)) same (contains-head (fact r v) [])) in
    Contains-append_right (facts_below k n) (fact_if n (k n)) (fact r v) here)
    (λ other. Contains-append_left (facts_below k n) (fact_if n (k n)) (fact r v) (in-below k n r v (omega arith) e))
    (cases_eq r n)

-- ---- their order

abbrev pub registers_of : List Fact → List ℕ
registers_of facts = map (λ x. x.reg.0) facts

rising-push : (xs : List ℕ) (n : ℕ) → IsStrictlyIncreasing xs → All (λ x. x < n) xs → IsStrictlyIncreasing (xs ++ n ∷ [])
rising-push xs n up below = λ k h.
    let len = length-append xs (n ∷ []) in
    let first : k < length xs = omega arith in
    let at = get_or-append xs (n ∷ []) 0 k first in
    ⊎_elim
    (λ e.
    let seam = ap (λ j. get_or (xs ++ n ∷ []) j 0) e ∙ get_or-append_seam xs n [] 0 in
    let low = below k 0 first in
    omega arith)
    (λ ne.
    let inside : k + 1 < length xs = omega arith in
    let next = get_or-append xs (n ∷ []) 0 (k + 1) inside in
    let rise = up k inside in
    omega arith)
    (cases_eq (k + 1) (length xs))

below-registers : (k : Knowledge) (n : ℕ) → All (λ x. x.reg.0 < n) (facts_below k n)
below-registers k n = all-from_contains (λ (x : Fact). x.reg.0 < n) (facts_below k n) (λ x c. (below-in k n x c).0)

rising-slot : (xs : List Fact) (n : ℕ) (o : Option ℤ) → IsStrictlyIncreasing (registers_of xs) → All (λ x. x.reg.0 < n) xs →
    IsStrictlyIncreasing (registers_of xs ++ registers_of (fact_if n o))
unfolding fact_if
rising-slot xs n None up below = subst IsStrictlyIncreasing (sym (append-nil (registers_of xs))) up
rising-slot xs n (Some v) up below = rising-push (registers_of xs) n up (All-map (λ (r : ℕ). r < n) (λ (x : Fact). x.reg.0) xs below)

below-rises : (k : Knowledge) (n : ℕ) → IsStrictlyIncreasing (registers_of (facts_below k n))
unfolding facts_below
below-rises k zero = λ i h. absurd (omega arith)
below-rises k (suc n) = subst IsStrictlyIncreasing (sym (map-append (λ (x : Fact). x.reg.0) (facts_below k n) (fact_if n (k n))))
    (rising-slot (facts_below k n) n (k n) (below-rises k n) (below-registers k n))

pub below-fine : (k : Knowledge) (n : ℕ) → AreFactsFine n (facts_below k n)
below-fine k n = record { registers = below-registers k n; increasing = below-rises k n }

-- ---- one list for the same facts

abbrev Rises : List Fact → Type 0
Rises [] = ⊤
Rises (x ∷ facts) = All (λ y. x.reg.0 < y.reg.0) facts × Rises facts

rises_from : (facts : List Fact) → AllPairs (λ x y. x < y) (registers_of facts) → Rises facts
rises_from [] rise = tt
rises_from (x ∷ facts) rise = (
  (λ k d h.
      let low : x.reg.0 < get_or (registers_of facts) k d.reg.0 = rise 0 (suc k) d.reg.0 (omega arith)
      (omega (arith, length-map facts (λ (z : Fact). z.reg.0))) in
      let same = get_or-map (λ (z : Fact). z.reg.0) facts k d in
      omega arith),
  rises_from facts (λ i j d lt h. rise (suc i) (suc j) d (omega arith) (omega arith)),
)

one_list : (xs ys : List Fact) → Rises xs → Rises ys → ((z : Fact) → Contains xs z → Contains ys z) → ((z : Fact) → Contains ys z → Contains xs z) → xs ≡ ys
one_list [] [] up up' to from = refl
one_list [] (y ∷ ys) up up' to from = absurd (contains-none y (from y (contains-head y ys)))
one_list (x ∷ xs) [] up up' to from = absurd (contains-none x (to x (contains-head x xs)))
one_list (x ∷ xs) (y ∷ ys) up up' to from =
    ap₂ (λ (z : Fact) (zs : List Fact). z ∷ zs) first
    (one_list xs ys up.1 up'.1 (λ z c. past z y ys first (after x xs up z c) (to z (contains-tail x z xs c))) (λ z c. past' z c))
  where
    after : (w : Fact) (ws : List Fact) → Rises (w ∷ ws) → (z : Fact) → Contains ws z → w.reg.0 < z.reg.0
    after w ws rise z c = All-contains (λ (v : Fact). w.reg.0 < v.reg.0) ws z rise.0 c

    low : (z w : Fact) (ws : List Fact) → Rises (w ∷ ws) → Contains (w ∷ ws) z → w.reg.0 ≤ z.reg.0
    low z w ws rise c = ⊎_elim
        (λ same. let e = ap (λ (v : Fact). v.reg.0) same in omega arith)
        (λ rest. let h = after w ws rise z rest in omega arith)
        (contains-cases w z ws c)

    first : x ≡ y
    first = ⊎_elim
        (λ same. sym same)
        (λ rest.
        let h = after y ys up' x rest in
        let h' = low y x xs up (from y (contains-head y ys)) in
        absurd (omega arith))
        (contains-cases y x ys (to x (contains-head x xs)))

    past : (z w : Fact) (ws : List Fact) → x ≡ w → x.reg.0 < z.reg.0 → Contains (w ∷ ws) z → Contains ws z
    past z w ws e h c = ⊎_elim
        (λ same. let e' = ap (λ (v : Fact). v.reg.0) (e ∙ same) in absurd (omega arith))
        (λ rest. rest)
        (contains-cases w z ws c)

    past' : (z : Fact) → Contains ys z → Contains xs z
    past' z c =
        let h : y.reg.0 < z.reg.0 = after y ys up' z c in
        let e = ap (λ (v : Fact). v.reg.0) first in
        past z x xs refl (omega arith) (from z (contains-tail y z ys c))

-- lists of facts in order which have the same facts are the same
pub fine-one : (n : ℕ) (xs ys : List Fact) → AreFactsFine n xs → AreFactsFine n ys → All (Contains ys) xs → All (Contains xs) ys → xs ≡ ys
fine-one n xs ys fine fine' to from =
    one_list xs ys
    (rises_from xs (AllPairs-from_increasing (registers_of xs) fine.increasing))
    (rises_from ys (AllPairs-from_increasing (registers_of ys) fine'.increasing))
    (λ z c. All-contains (Contains ys) xs z to c)
    (λ z c. All-contains (Contains xs) ys z from c)
