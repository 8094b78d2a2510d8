-- What holds where there are no offences.
use Rattle.std.proofs.Common.{◌≡◌, ℕ, ◌+◌, ◌<◌, List, [], ◌∷◌, length, Bool, true, false, cond, Some, arith}
use Rattle.std.specs.Prelude.{position, nat_le, ◌==◌}
use Rattle.std.specs.List.{position_from}
use Rattle.std.proofs.lemmas.Bool.Decides.{nat_tests}
use Rattle.std.proofs.lemmas.List.Quantifiers.{position-Some}

pub below : (m n : ℕ) → nat_le m n ≡ false → n < m
below m n h = grind (arith, nat_tests)

pub equal : (m n : ℕ) → (m == n) ≡ true → m ≡ n
equal m n h = grind (arith, nat_tests)

pub some_items : {A : Type 0} (xs : List A) → (length xs == 0) ≡ false → 0 < length xs
some_items xs h = let n : ℕ = length xs in grind (arith, nat_tests)

pub place_within : (test : List ℕ → Bool) (names : List (List ℕ)) (place : ℕ) → position test names ≡ Some place → place < length names
place_within test names place h = (position-Some test names place [] h).0

pub from_within : {A : Type 0} (test : A → Bool) (i : ℕ) (xs : List A) (place : ℕ) → position_from test i xs ≡ Some place → place < i + length xs
from_within test i [] place h = cc
from_within test i (x ∷ xs) place h =
    elim (test x) as (λ b. cond b (Some i) (position_from test (i + 1) xs) ≡ Some place → place < i + length (x ∷ xs)) [
      | true ↦ (λ e. let same : i ≡ place = cc in omega arith)
      | false ↦ (λ e. let rest : place < (i + 1) + length xs = from_within test (i + 1) xs place e in omega arith)
    ] h
