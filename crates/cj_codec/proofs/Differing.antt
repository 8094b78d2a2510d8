-- Tests on lists: destinations that differ, and registers that increase.
use Rattle.std.proofs.Common.{◌≡◌, ◌≢◌, ℕ, zero, suc, ◌+◌, ◌<◌, ◌≤◌, List, [], ◌∷◌, map, refl, sym, ap, arith}
use Rattle.std.specs.Prelude.{Bool, true, false, not, ◌||◌, ◌==◌, All, ⊤}
use Rattle.std.specs.List.Sorted.{IsStrictlyIncreasing}
use Rattle.std.specs.Cmp.Derive.{both_true}
use Rattle.std.proofs.lemmas.Bool.{eqb-true, eq-eqb, leb-true, le-leb, and_parts}
use Rattle.std.proofs.lemmas.List.Elements.{All-cons, All-nil, All-tail, All-head}
use Rattle.std.proofs.lemmas.List.Kept.{AllPairs-cons}
use Rattle.cj_ir.specs.declared.language.Reg.{Reg}
use Rattle.cj_ir.specs.WellFormed.{AllDifferBy}
use Rattle.cj_draft.specs.declared.facts.Fact.{Fact}
use Rattle.cj_draft.specs.declared.instructions.Pair.{Pair}
use Rattle.cj_draft.proofs.FewPairs.{same_reg}
use Rattle.cj_codec.specs.Reading.{has_dest, are_apart, rise_from}

neither : (s t : Bool) → not (s || t) ≡ true → (s ≡ false) × (not t ≡ true)
neither true t e = cc
neither false t e = (refl, e)

neither_to : (s t : Bool) → (s ≡ true → ⊥) → not t ≡ true → not (s || t) ≡ true
neither_to true t h e = absurd (h refl)
neither_to false t h e = e

step : (k : ℕ) → suc k + 1 ≡ suc (k + 1)
step k = omega arith

-- ---- destinations

abbrev dest_of : Pair → Reg
dest_of pair = pair.dest

apart_from : (pair : Pair) (pairs : List Pair) → not (has_dest pair.dest.0 pairs) ≡ true → All (λ other. pair.dest ≢ other.dest) pairs
apart_from pair [] e = All-nil (λ other. pair.dest ≢ other.dest)
apart_from pair (other ∷ others) e =
    let parts = neither (other.dest.0 == pair.dest.0) (has_dest pair.dest.0 others) e in
    let differ : pair.dest ≢ other.dest = λ same. let equal = eq-eqb other.dest.0 pair.dest.0 (ap (λ (r : Reg). r.0) (sym same)) in cc in
    All-cons (λ x. pair.dest ≢ x.dest) other others differ (apart_from pair others parts.1)

apart_to : (pair : Pair) (pairs : List Pair) → All (λ other. pair.dest ≢ other.dest) pairs → not (has_dest pair.dest.0 pairs) ≡ true
apart_to pair [] h = refl
apart_to pair (other ∷ others) h =
    let P : Pair → Type 0 = λ x. pair.dest ≢ x.dest in
    neither_to (other.dest.0 == pair.dest.0) (has_dest pair.dest.0 others)
    (λ e. All-head P other others h (sym (same_reg other.dest pair.dest (eqb-true other.dest.0 pair.dest.0 e))))
    (apart_to pair others (All-tail P other others h))

differ_head : (pair : Pair) (pairs : List Pair) → AllDifferBy dest_of (pair ∷ pairs) → All (λ other. pair.dest ≢ other.dest) pairs
differ_head pair pairs h = λ k d lt. h 0 (suc k) d (omega arith) (omega arith)

differ_tail : (pair : Pair) (pairs : List Pair) → AllDifferBy dest_of (pair ∷ pairs) → AllDifferBy dest_of pairs
differ_tail pair pairs h = λ i j d lt within. h (suc i) (suc j) d (omega arith) (omega arith)

pub differ_from : (pairs : List Pair) → are_apart pairs ≡ true → AllDifferBy dest_of pairs
differ_from [] e = λ i j d lt within. absurd (omega arith)
differ_from (pair ∷ pairs) e =
    let both = and_parts (not (has_dest pair.dest.0 pairs)) (are_apart pairs) e in
    AllPairs-cons (λ x y. dest_of x ≢ dest_of y) pair pairs (apart_from pair pairs both.0) (differ_from pairs both.1)

pub differ_to : (pairs : List Pair) → AllDifferBy dest_of pairs → are_apart pairs ≡ true
differ_to [] h = refl
differ_to (pair ∷ pairs) h =
    both_true (apart_to pair pairs (differ_head pair pairs h)) (differ_to pairs (differ_tail pair pairs h))

-- ---- registers

abbrev numbers : List Fact → List ℕ
numbers facts = map (λ fact. fact.reg.0) facts

abbrev Rises : ℕ → List Fact → Type 0
Rises least [] = ⊤
Rises least (fact ∷ facts) = (least ≤ fact.reg.0) × Rises (fact.reg.0 + 1) facts

rises_from : (least : ℕ) (facts : List Fact) → rise_from least facts ≡ true → Rises least facts
rises_from least [] e = tt
rises_from least (fact ∷ facts) e =
    let both = and_parts _ _ e in
    (leb-true least fact.reg.0 both.0, rises_from (fact.reg.0 + 1) facts both.1)

rises_to : (least : ℕ) (facts : List Fact) → Rises least facts → rise_from least facts ≡ true
rises_to least [] h = refl
rises_to least (fact ∷ facts) h = both_true (le-leb least fact.reg.0 h.0) (rises_to (fact.reg.0 + 1) facts h.1)

increasing_from : (least : ℕ) (facts : List Fact) → Rises least facts → IsStrictlyIncreasing (numbers facts)
increasing_from least [] h k lt = absurd (omega arith)
increasing_from least (fact ∷ []) h k lt = absurd (omega arith)
increasing_from least (fact ∷ other ∷ facts) h zero lt = omega arith
increasing_from least (fact ∷ other ∷ facts) h (suc k) lt = rw (step k) (increasing_from (fact.reg.0 + 1) (other ∷ facts) h.1 k (omega arith))

increasing_to : (least : ℕ) (fact : Fact) (facts : List Fact) → least ≤ fact.reg.0 → IsStrictlyIncreasing (numbers (fact ∷ facts)) → Rises least (fact ∷ facts)
increasing_to least fact [] low h = (low, tt)
increasing_to least fact (other ∷ facts) low h =
    let next : fact.reg.0 < other.reg.0 = h 0 (omega arith) in
    (low, increasing_to (fact.reg.0 + 1) other facts (omega arith) (λ k lt. rw (step k) at (h (suc k) (omega arith))))

pub rise_sound : (facts : List Fact) → rise_from 0 facts ≡ true → IsStrictlyIncreasing (numbers facts)
rise_sound facts e = increasing_from 0 facts (rises_from 0 facts e)

pub rise_complete : (facts : List Fact) → IsStrictlyIncreasing (numbers facts) → rise_from 0 facts ≡ true
rise_complete [] h = refl
rise_complete (fact ∷ facts) h = rises_to 0 (fact ∷ facts) (increasing_to 0 fact facts (omega arith) h)
