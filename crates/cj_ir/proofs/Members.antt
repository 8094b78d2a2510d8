-- What is in a list, by its head and its rest.
use Rattle.std.proofs.Common.{◌≡◌, ◌<◌, ◌⊎◌, zero, suc, List, [], ◌∷◌, get_or, refl, inl, inr, ⊎_elim, arith}
use Rattle.std.specs.Prelude.{Contains, All}
use Rattle.std.proofs.lemmas.List.Elements.{Contains-get_or, Contains-append_cases, Contains-append_right}

pub contains-none : {X : Type 0} (x : X) → Contains [] x → ⊥
contains-none x c = let h : c.0 < 0 = c.1 in omega arith

pub contains-one : {X : Type 0} (x y : X) → Contains (x ∷ []) y → x ≡ y
contains-one x y (zero, h, e) = e
contains-one x y (suc k, h, e) = absurd (omega arith)

pub contains-head : {X : Type 0} (x : X) (xs : List X) → Contains (x ∷ xs) x
contains-head x xs = (0, omega arith, refl)

pub contains-tail : {X : Type 0} (x y : X) (xs : List X) → Contains xs y → Contains (x ∷ xs) y
contains-tail x y xs c = Contains-append_right (x ∷ []) xs y c

pub contains-cases : {X : Type 0} (x y : X) (xs : List X) → Contains (x ∷ xs) y → (x ≡ y) ⊎ Contains xs y
contains-cases x y xs c = ⊎_elim (λ one. inl (contains-one x y one)) (λ more. inr more) (Contains-append_cases (x ∷ []) xs y c)

pub all-from_contains : {X : Type 0} (P : X → Type 0) (xs : List X) → ((x : X) → Contains xs x → P x) → All P xs
all-from_contains P xs f = λ k d lt. f (get_or xs k d) (Contains-get_or xs k d lt)
