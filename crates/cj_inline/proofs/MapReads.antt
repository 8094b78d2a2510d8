-- Reads of lists that are mapped and appended.
use Rattle.std.proofs.Common.{◌≡◌, ℕ, suc, ◌+◌, ◌<◌, List, [], ◌∷◌, ◌++◌, length, map, Some, sym, ap, ◌∙◌, arith}
use Rattle.std.specs.Prelude.{slice_get, Contains}
use Rattle.std.specs.Option.{option_map}
use Rattle.std.proofs.lemmas.List.{length-map}
use Rattle.std.proofs.lemmas.Option.{same_Some, slice_get-map, slice_get_within}
use Rattle.cj_ir.proofs.ListReads.{at_index}
use Rattle.cj_rows.proofs.ListReads.{contains-at, at-contains}

pub get-append_after : {X : Type 0} (xs ys : List X) (i : ℕ) → slice_get (xs ++ ys) (length xs + i) ≡ slice_get ys i
get-append_after [] ys i = let e : 0 + i ≡ i = omega arith in ap (slice_get ys) e
get-append_after (x ∷ xs) ys i =
    let e : suc (length xs) + i ≡ suc (length xs + i) = omega arith in
    ap (slice_get (x ∷ (xs ++ ys))) e ∙ get-append_after xs ys i

pub get-map_some : {A B : Type 0} (f : A → B) (xs : List A) (i : ℕ) (x : A) → slice_get xs i ≡ Some x → slice_get (map f xs) i ≡ Some (f x)
get-map_some f xs i x e = slice_get-map f xs i ∙ ap (option_map f) e

-- what is read of a mapped list was read of the list
pub get-map_from : {A B : Type 0} (f : A → B) (xs : List A) (i : ℕ) (y : B) → slice_get (map f xs) i ≡ Some y → (x : A) × (slice_get xs i ≡ Some x) × (f x ≡ y)
get-map_from f xs i y e =
    let within = slice_get_within (map f xs) i y e in
    let inside : i < length xs = omega (arith, length-map xs f) in
    let x = at_index xs i inside in
    (x.0, x.1, same_Some (f x.0) y (sym (get-map_some f xs i x.0 x.1) ∙ e))

pub contains-map : {A B : Type 0} (f : A → B) (xs : List A) (x : A) → Contains xs x → Contains (map f xs) (f x)
contains-map f xs x c = contains-at (map f xs) c.0 (f x) (get-map_some f xs c.0 x (at-contains xs x c))

pub contains-map_from : {A B : Type 0} (f : A → B) (xs : List A) (y : B) → Contains (map f xs) y → (x : A) × Contains xs x × (f x ≡ y)
contains-map_from f xs y c =
    let x = get-map_from f xs c.0 y (at-contains (map f xs) y c) in
    (x.0, contains-at xs c.0 x.0 x.1, x.2)
