-- What joined tests say of their parts.
use Rattle.std.proofs.Common.{◌≡◌, Bool, true, false, List, [], ◌∷◌, All, refl}
use Rattle.std.specs.Prelude.{◌||◌, not}
use Rattle.std.specs.Bool.{Decides}
use Rattle.std.specs.List.{list_any}
use Rattle.std.proofs.lemmas.List.Elements.{All-nil, All-cons}
use Rattle.std.proofs.lemmas.Bool.{or_parts}

pub not_or : (a b : Bool) → not (a || b) ≡ true → (a ≡ false) × (b ≡ false)
not_or true b h = cc
not_or false true h = cc
not_or false false h = (refl, refl)

-- no item is one, where no test passes
pub none_passing : {A : Type 0} (test : A → Bool) (P : A → Type 0) → ((x : A) → Decides (test x) (P x)) → (xs : List A) → list_any test xs ≡ false →
    All (λ x. P x → ⊥) xs
none_passing test P decides [] e = All-nil (λ y. P y → ⊥)
none_passing test P decides (x ∷ xs) e =
    let parts : (test x ≡ false) × (list_any test xs ≡ false) = or_parts (test x) (list_any test xs) e in
    let here : P x → ⊥ = λ p. let t : test x ≡ true = (decides x).1 p in cc in
    All-cons (λ y. P y → ⊥) x xs here (none_passing test P decides xs parts.1)
