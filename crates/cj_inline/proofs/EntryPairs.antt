-- The assignments that enter a callee, one after the other.
use Rattle.std.proofs.Common.{◌≡◌, ℕ, zero, suc, ◌+◌, ◌-◌, ◌<◌, List, [], ◌∷◌, drop, refl, ap, ◌∙◌, subst, arith}
use Rattle.std.specs.Prelude.{slice_get}
use Rattle.cj_ir.specs.declared.language.Operand.{Operand}
use Rattle.cj_draft.specs.declared.instructions.Pair.{Pair}
use Rattle.cj_draft.specs.Inlining.{entry_pairs}
use Rattle.cj_inline.specs.Entries.{or_zero, entry_pair}

pair_of : ℕ → Operand → Pair
pair_of dest value = record { dest = record { 0 = dest }; value = value }

first_pair : (first n : ℕ) (args : List Operand) → entry_pairs first args (suc n) ≡ pair_of first (or_zero (slice_get args 0))
    ∷ entry_pairs (suc first) (drop 1 args) n
unfolding entry_pairs pair_of or_zero
first_pair first n [] = refl
first_pair first n (arg ∷ args) = refl

get_dropped : {X : Type 0} (xs : List X) (i : ℕ) → slice_get (drop i xs) 0 ≡ slice_get xs i
get_dropped [] zero = refl
get_dropped [] (suc i) = refl
get_dropped (x ∷ xs) zero = refl
get_dropped (x ∷ xs) (suc i) = get_dropped xs i

drop_dropped : {X : Type 0} (xs : List X) (i : ℕ) → drop 1 (drop i xs) ≡ drop (i + 1) xs
drop_dropped xs i = let e : suc i ≡ i + 1 = omega arith in subst (λ n. drop 1 (drop i xs) ≡ drop n xs) e (by_list xs i)
  where
    by_list : {X : Type 0} (xs : List X) (i : ℕ) → drop 1 (drop i xs) ≡ drop (suc i) xs
    by_list [] zero = refl
    by_list [] (suc i) = refl
    by_list (x ∷ xs) zero = refl
    by_list (x ∷ xs) (suc i) = by_list xs i

pub next_pair : (first count i : ℕ) (args : List Operand) → i < count → entry_pairs (first + i) (drop i args) (count - i) ≡ entry_pair first args i
    ∷ entry_pairs (first + (i + 1)) (drop (i + 1) args) (count - (i + 1))
unfolding entry_pair pair_of
next_pair first count i args lt =
    let left : count - i ≡ suc (count - (i + 1)) = omega arith in
    let next : suc (first + i) ≡ first + (i + 1) = omega arith in
    ap (λ n. entry_pairs (first + i) (drop i args) n) left
    ∙ first_pair (first + i) (count - (i + 1)) (drop i args)
    ∙ ap (λ o. pair_of (first + i) (or_zero o) ∷ entry_pairs (suc (first + i)) (drop 1 (drop i args)) (count - (i + 1))) (get_dropped args i)
    ∙ ap (λ xs. pair_of (first + i) (or_zero (slice_get args i)) ∷ entry_pairs (suc (first + i)) xs (count - (i + 1))) (drop_dropped args i)
    ∙ ap (λ f. pair_of (first + i) (or_zero (slice_get args i)) ∷ entry_pairs f (drop (i + 1) args) (count - (i + 1))) next

pub no_pair : (first count : ℕ) (args : List Operand) → count ≡ 0 → entry_pairs first args count ≡ []
unfolding entry_pairs
no_pair first zero args e = refl
no_pair first (suc count) args e = absurd (omega arith)
