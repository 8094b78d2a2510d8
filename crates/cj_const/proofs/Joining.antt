-- The steps of the loops over registers: facts of a row, and of two rows together.
use Rattle.std.proofs.Common.{◌≡◌, ℕ, zero, suc, ◌+◌, ◌<◌, Bool, true, false, List, [], ◌++◌, Option, refl, sym, ap, ap₂, ◌∙◌, subst, ⊎_elim, arith}
use Rattle.std.specs.Prelude.{ℤ}
use Rattle.std.proofs.lemmas.Bool.{cases_eq, or_left, or_right, or_from, cond-true, cond-false}
use Rattle.cj_draft.specs.declared.facts.Fact.{Fact}
use Rattle.cj_draft.specs.declared.facts.Facts.TheVariants.{Unreached, Known}
use Rattle.cj_const.specs.Knowledge.{Knowledge, known}
use Rattle.cj_const.specs.Folding.{fact_if, facts_below, differ, clash, or_else, both, together_of}

pub known-in : (items row : List (Option ℤ)) (r : ℕ) (value : Option ℤ) → value ≡ known items r → items ≡ row → value ≡ known row r
known-in items row r value e same = e ∙ ap (λ (xs : List (Option ℤ)). known xs r) same

pub below-more : (k : Knowledge) (n : ℕ) (facts new : List Fact) (value : Option ℤ) → facts ≡ facts_below k n → new ≡ facts ++ fact_if n value → value ≡ k n →
    new ≡ facts_below k (n + 1)
unfolding facts_below
below-more k n facts new value e pushed same =
    let next : suc n ≡ n + 1 = omega arith in
    subst (λ m. new ≡ facts_below k m) next
    (pushed ∙ ap₂ (λ (xs : List Fact) (v : Option ℤ). xs ++ fact_if n v) e same)

pub below-none : (k : Knowledge) (facts : List Fact) → facts ≡ [] → facts ≡ facts_below k 0
unfolding facts_below
below-none k facts e = e

pub both-at : (k k' : Knowledge) (r : ℕ) (mine others value : Option ℤ) → mine ≡ k r → others ≡ k' r → value ≡ or_else mine others → value ≡ both k k' r
unfolding both
both-at k k' r mine others value e e' is = is ∙ ap₂ or_else e e'

pub clash-none : (k k' : Knowledge) → clash k k' 0 ≡ false
unfolding clash
clash-none k k' = refl

pub clash-more : (k k' : Knowledge) (n : ℕ) (mine others : Option ℤ) (found : Bool) → clash k k' n ≡ false → mine ≡ k n → others ≡ k' n →
    found ≡ differ mine others → found ≡ false → clash k k' (n + 1) ≡ false
unfolding clash
clash-more k k' n mine others found clear e e' is no_ =
    let next : suc n ≡ n + 1 = omega arith in
    subst (λ m. clash k k' m ≡ false) next
    (or_from (clash k k' n) (differ (k n) (k' n)) clear (sym (is ∙ ap₂ differ e e') ∙ no_))

pub clash-found : (k k' : Knowledge) (n m : ℕ) → differ (k n) (k' n) ≡ true → n < m → clash k k' m ≡ true
unfolding clash
clash-found k k' n zero e h = absurd (omega arith)
clash-found k k' n (suc m) e h = ⊎_elim
    (λ same. or_right (clash k k' m) (differ (k m) (k' m)) (subst (λ j. differ (k j) (k' j) ≡ true) same e))
    (λ other. or_left (clash k k' m) (differ (k m) (k' m)) (clash-found k k' n m e (omega arith)))
    (cases_eq n m)

pub together-clash : (k k' : Knowledge) (n m : ℕ) (mine others : Option ℤ) (found : Bool) → n < m → mine ≡ k n → others ≡ k' n → found ≡ differ mine others →
    found ≡ true → Unreached ≡ together_of m k k'
unfolding together_of
together-clash k k' n m mine others found h e e' is yes_ =
    sym (cond-true (clash k k' m) Unreached (Known (facts_below (both k k') m)) (clash-found k k' n m (sym (is ∙ ap₂ differ e e') ∙ yes_) h))

pub together-clear : (k k' : Knowledge) (n m : ℕ) (facts : List Fact) → n ≡ m → clash k k' n ≡ false → facts ≡ facts_below (both k k') n →
    Known facts ≡ together_of m k k'
unfolding together_of
together-clear k k' n m facts e clear is =
    ap Known is
    ∙ sym (cond-false (clash k k' n) Unreached (Known (facts_below (both k k') n)) clear)
    ∙ ap (λ j. together_of j k k') e
