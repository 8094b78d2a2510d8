-- Lists that grow at their end, seen from their end.
use Rattle.std.proofs.Common.{◌≡◌, ◌∙◌, sym, ap, refl, ◌+◌, ◌-◌, ◌<◌, List, [], ◌∷◌, ◌++◌, length, take, reverse, Some, None, All, arith}
use Rattle.std.specs.Prelude.{slice_get}
use Rattle.std.proofs.Math.Seq.{take-length}
use Rattle.std.proofs.lemmas.List.{reverse-append, take_more}
use Rattle.std.proofs.lemmas.List.Sorted.{All-permutation, IsPermutation-reverse}
use Rattle.std.proofs.lemmas.Option.{slice_get_within, slice_get-get_or, get_or_from_slice_get}

-- a list is empty where it has no last item
pub none_last : {A : Type 0} (xs : List A) → slice_get xs (length xs - 1) ≡ None → xs ≡ []
none_last [] e = refl
none_last (x ∷ xs) e =
    let within : length (x ∷ xs) - 1 < length (x ∷ xs) = omega arith in
    let some = slice_get-get_or (x ∷ xs) (length (x ∷ xs) - 1) x within in
    cc

-- a list is its last item behind the others
front_last : {A : Type 0} (xs : List A) (x : A) → slice_get xs (length xs - 1) ≡ Some x → take (length xs - 1) xs ++ x ∷ [] ≡ xs
front_last xs x e =
    let within : length xs - 1 < length xs = slice_get_within xs (length xs - 1) x e in
    let whole : length xs - 1 + 1 ≡ length xs = omega arith in
    let same = ap (λ y. take (length xs - 1) xs ++ y ∷ []) (get_or_from_slice_get xs (length xs - 1) x x e) in
    sym same ∙ sym (take_more xs (length xs - 1) x within) ∙ ap (λ n. take n xs) whole ∙ take-length xs

pub reverse_last : {A : Type 0} (xs : List A) (x : A) → slice_get xs (length xs - 1) ≡ Some x → reverse xs ≡ x ∷ reverse (take (length xs - 1) xs)
reverse_last xs x e =
    sym (ap reverse (front_last xs x e)) ∙ reverse-append (take (length xs - 1) xs) (x ∷ [])

pub All-reverse : {A : Type 0} (P : A → Type 0) (xs : List A) → All P xs → All P (reverse xs)
All-reverse P xs = All-permutation P xs (reverse xs) (IsPermutation-reverse xs)
