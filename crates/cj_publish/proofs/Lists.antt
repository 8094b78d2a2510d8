-- Members of lists, pieces of the words, and lookups that rise.
use Rattle.std.proofs.Common.{◌≡◌, ◌⊎◌, ℕ, zero, suc, ◌+◌, ◌-◌, ◌<◌, ◌≤◌, List, [], ◌∷◌, ◌++◌, length, take, drop, set, sym, ap, ◌∙◌, subst, inl, inr, ⊎_elim, arith}
use Rattle.std.proofs.lemmas.List.{drop-set-lt, drop-set-add, take-set-le, take_more_set, get_or-drop, get_or-take}
use mathlib.Core.Option.{some, some-ne-none}
use lib.ListN.{get_elem?}
use Rattle.cj_publish.specs.Words.{Has, Each, piece}

module _ {A : Type 0} where
  pub at_inside : (xs : List A) (i : ℕ) (x : A) → get_elem? xs i ≡ some x → i < length xs
  at_inside [] i x e = absurd (some-ne-none x (sym e))
  at_inside (y ∷ xs) zero x e = omega arith
  at_inside (y ∷ xs) (suc i) x e = let z = at_inside xs i x e in omega arith

  -- a list of one has one place
  pub only : (xs : List A) (i j : ℕ) (x y : A) → get_elem? xs i ≡ some x → get_elem? xs j ≡ some y → length xs ≡ 1 → j ≡ i
  only xs i j x y e f one = let a = at_inside xs i x e in let b = at_inside xs j y f in omega arith

  pub has_either : (xs ys : List A) (x : A) → Has (xs ++ ys) x → Has xs x ⊎ Has ys x
  has_either [] ys x h = inr h
  has_either (z ∷ xs) ys x h = ⊎_elim (λ e. inl (inl e)) (λ t. ⊎_elim (λ a. inl (inr a)) (λ b. inr b) (has_either xs ys x t)) h

  pub each_append : (P : A → Type 0) (xs ys : List A) → Each P xs → Each P ys → Each P (xs ++ ys)
  each_append P xs ys p q x h = ⊎_elim (p x) (q x) (has_either xs ys x h)

  pub each_cons : (P : A → Type 0) (y : A) (ys : List A) → P y → Each P ys → Each P (y ∷ ys)
  each_cons P y ys p q x h = ⊎_elim (λ (e : y ≡ x). subst P e p) (q x) h

-- the place i lies outside the n places from o on
abbrev pub Outside : ℕ → ℕ → ℕ → Type 0
Outside i o n = (i < o) ⊎ (o + n ≤ i)

pub piece_out : (ws : List ℕ) (i x o n : ℕ) → Outside i o n → piece (set ws i x) o n ≡ piece ws o n
piece_out ws i x o n (inl h) = ap (take n) (drop-set-lt o ws i x h)
piece_out ws i x o n (inr h) =
    let e : o + (i - o) ≡ i = omega arith in
    ap (λ (j : ℕ). take n (drop o (set ws j x))) (sym e) ∙ (ap (take n) (drop-set-add o ws (i - o) x) ∙ take-set-le n (drop o ws) (i - o) x (omega arith))

-- a word is written behind those that are there
pub piece_more : (ws : List ℕ) (o n x : ℕ) → o + n < length ws → piece (set ws (o + n) x) o (n + 1) ≡ piece ws o n ++ x ∷ []
piece_more ws o n x h = ap (take (n + 1)) (drop-set-add o ws n x)
    ∙ take_more_set (drop o ws) n x (simp Rattle.std.proofs.lemmas.List.length-drop (omega arith))
