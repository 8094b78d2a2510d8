-- What holds of each item, told one after the other.
use Rattle.std.proofs.Common.{◌≡◌, ℕ, ◌+◌, ◌<◌, List, length, get_or, subst, below_more}
use Rattle.std.proofs.lemmas.List.{get_or_default}

-- P holds of the items at the places below one
abbrev pub HoldsBelow : {A : Type 0} → (A → Type 0) → ℕ → List A → Type 0
HoldsBelow {A} P i xs = (k : ℕ) → k < i → (d : A) → P (get_or xs k d)

-- one more item
pub held : {A : Type 0} (P : A → Type 0) (xs : List A) (i : ℕ) (e : A) → i < length xs → HoldsBelow P i xs → P (get_or xs i e) → HoldsBelow P (i + 1) xs
held P xs i e h before here = below_more _ _ before (λ d. subst P (get_or_default xs i e d h) here)

pub held_item : {A : Type 0} (P : A → Type 0) (xs : List A) (i : ℕ) (x : A) → i < length xs → x ≡ get_or xs i x → HoldsBelow P i xs → P x →
    HoldsBelow P (i + 1) xs
held_item P xs i x h is before here = held P xs i x h before (subst P is here)
