-- The reports of callers, one pile each.
use Rattle.std.specs.Prelude.{◌≡◌, ◌<◌, List, [], ◌∷◌, ◌++◌, length}
use Rattle.cj_records.specs.Chains.{alone_each, dealt}

-- each of the piles has what falls to one caller, in order, where each item is dealt alone
pub record ArePiles {A : Type 0} (xs : List A) (piles : List (List A)) : Type 0 where
  pub some : 0 < length piles
  pub are : dealt (length piles) (alone_each xs) ≡ piles

-- the item is the first of the first pile
abbrev pub IsFirst : {A : Type 0} → A → List (List A) → Type 0
IsFirst {A = A} x piles = (pile : List A) × (others : List (List A)) × (piles ≡ (x ∷ pile) ∷ others)

-- it is taken off its pile, which is the last one from then on
abbrev pub TakesFirst : {A : Type 0} → A → List (List A) → List (List A) → Type 0
TakesFirst {A = A} x old new = (pile : List A) × (others : List (List A)) × (old ≡ (x ∷ pile) ∷ others) × (new ≡ others ++ pile ∷ [])
