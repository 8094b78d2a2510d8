-- Lists with a fact for each member, pieces of the words, and lookups that rise.
use Rattle.std.specs.Prelude.{◌≡◌, ℕ, ◌≤◌, ◌⊎◌, List, [], ◌∷◌, ◌++◌, take, drop}
use Rattle.std.proofs.Common.{inl, inr, ⊎_elim}
use Rattle.cj_publish.specs.declared.view.Cell.{Cell}

module _ {A : Type 0} where
  -- x is a member
  abbrev pub Has : List A → A → Type 0
  Has [] x = ⊥
  Has (y ∷ ys) x = (y ≡ x) ⊎ Has ys x

  abbrev pub Each : (A → Type 0) → List A → Type 0
  Each P xs = (x : A) → Has xs x → P x

  pub has_left : (xs ys : List A) (x : A) → Has xs x → Has (xs ++ ys) x
  has_left [] ys x h = absurd h
  has_left (z ∷ xs) ys x h = ⊎_elim (λ e. inl e) (λ t. inr (has_left xs ys x t)) h

  pub has_right : (xs ys : List A) (x : A) → Has ys x → Has (xs ++ ys) x
  has_right [] ys x h = h
  has_right (z ∷ xs) ys x h = inr (has_right xs ys x h)

-- n words from o on
abbrev pub piece : List ℕ → ℕ → ℕ → List ℕ
piece ws o n = take n (drop o ws)

-- the offsets of one cell never fall
abbrev pub Rises : List (Cell × ℕ) → Type 0
Rises [] = Unit {0}
Rises (x ∷ xs) = Each (λ (y : Cell × ℕ). y.0 ≡ x.0 → x.1 ≤ y.1) xs × Rises xs
