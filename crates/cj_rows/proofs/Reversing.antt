-- The last item of a list, taken off, as the first one of the reversed list.
use Rattle.std.proofs.Common.{◌≡◌, ◌-◌, ℕ, List, [], ◌∷◌, length, get_or, take, reverse, Option, Some, None, refl, sym, ap, ◌∙◌, arith}
use Rattle.std.specs.Prelude.{slice_get}
use Rattle.std.proofs.lemmas.Option.{none-some, slice_get-get_or}
use Rattle.cj_base.proofs.Lists.{reverse_last}

pub popped : {X : Type 0} (xs ys : List X) (o : Option X) (x : X) → o ≡ slice_get xs (length xs - 1) → o ≡ Some x → ys ≡ take (length xs - 1) xs →
    reverse xs ≡ x ∷ reverse ys
popped xs ys o x item is rest = reverse_last xs x (sym item ∙ is) ∙ ap (λ zs. x ∷ reverse zs) (sym rest)

pub popped_none : {X : Type 0} (xs : List X) (o : Option X) → o ≡ slice_get xs (length xs - 1) → o ≡ None → reverse xs ≡ []
popped_none [] o item is = refl
popped_none (x ∷ xs) o item is =
    let last : ℕ = length (x ∷ xs) - 1 in
    let here : slice_get (x ∷ xs) last ≡ Some (get_or (x ∷ xs) last x) = slice_get-get_or (x ∷ xs) last x (omega arith) in
    absurd (none-some (get_or (x ∷ xs) last x) (sym is ∙ item ∙ here))
