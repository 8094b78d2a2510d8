-- What stands before a place: the first place of a thing is below it exactly if an earlier item is that thing.
use Rattle.std.proofs.Common.{◌≡◌, ℕ, ◌+◌, ◌<◌, ◌≤◌, List, [], ◌∷◌, ◌++◌, length, Bool, true, false, cond, refl, arith}
use Rattle.std.specs.Prelude.{Some, ◌||◌, nat_lt, map}
use Rattle.std.specs.List.{list_any, position_from}
use Rattle.std.specs.Str.{bytes_eq}
use Rattle.cj_reader.specs.Scopes.{Head, first_named}
use Rattle.cj_reader.specs.Reading.{is_before, is_earlier}

-- a test of numbers, at numbers of which it is known
pub less : (i n : ℕ) → i < n → nat_lt i n ≡ true
less i n h = grind (arith)

pub not_less : (i n : ℕ) → n ≤ i → nat_lt i n ≡ false
not_less i n h = grind (arith)

-- what is looked for from a place on is not before it
none_before : {A : Type 0} (test : A → Bool) (n i : ℕ) (xs : List A) → n ≤ i → is_before n (position_from test i xs) ≡ false
none_before test n i [] h = refl
none_before test n i (x ∷ xs) h = elim (test x) as (λ b. is_before n (cond b (Some i) (position_from test (i + 1) xs)) ≡ false) [
  | true ↦ not_less i n h
  | false ↦ none_before test n (i + 1) xs (omega arith)
]

from_there : {A : Type 0} (test : A → Bool) (i : ℕ) (xs ys : List A) → is_before (i + length xs) (position_from test i (xs ++ ys)) ≡ list_any test xs
from_there test i [] ys = none_before test (i + 0) i ys (omega arith)
from_there test i (x ∷ xs) ys = elim (test x) as (λ b. is_before (i + length (x ∷ xs)) (cond b (Some i) (position_from test (i + 1) (xs ++ ys)))
    ≡ (b || list_any test xs)) [
      | true ↦ less i (i + length (x ∷ xs)) (omega arith)
      | false ↦ (let e : (i + 1) + length xs ≡ i + length (x ∷ xs) = omega arith in rw (← e) (from_there test (i + 1) xs ys))
    ]

pub earlier_place : {A : Type 0} (test : A → Bool) (xs ys : List A) → is_before (length xs) (position_from test 0 (xs ++ ys)) ≡ list_any test xs
earlier_place test xs ys =
    let e : 0 + length xs ≡ length xs = omega arith in
    rw (← e) (from_there test 0 xs ys)

none_earlier : (name : List ℕ) (n i : ℕ) (heads : List Head) → n ≤ i → is_earlier n (first_named i heads name) ≡ false
none_earlier name n i [] h = refl
none_earlier name n i (head ∷ heads) h = elim (bytes_eq head.name name) as
    (λ b. is_earlier n (cond b (Some (record { function = record { 0 = i }; params = head.params })) (first_named (i + 1) heads name)) ≡ false) [
      | true ↦ not_less i n h
      | false ↦ none_earlier name n (i + 1) heads (omega arith)
    ]

named_there : (name : List ℕ) (i : ℕ) (xs ys : List Head) → is_earlier (i + length xs) (first_named i (xs ++ ys) name)
    ≡ list_any (λ other. bytes_eq other name) (map (λ h. h.name) xs)
named_there name i [] ys = none_earlier name (i + 0) i ys (omega arith)
named_there name i (x ∷ xs) ys = elim (bytes_eq x.name name) as
    (λ b. is_earlier (i + length (x ∷ xs)) (cond b (Some (record { function = record { 0 = i }; params = x.params })) (first_named (i + 1) (xs ++ ys) name))
    ≡ (b || list_any (λ other. bytes_eq other name) (map (λ h. h.name) xs))) [
      | true ↦ less i (i + length (x ∷ xs)) (omega arith)
      | false ↦ (let e : (i + 1) + length xs ≡ i + length (x ∷ xs) = omega arith in rw (← e) (named_there name (i + 1) xs ys))
    ]

pub earlier_named : (name : List ℕ) (xs ys : List Head) → is_earlier (length xs) (first_named 0 (xs ++ ys) name)
    ≡ list_any (λ other. bytes_eq other name) (map (λ h. h.name) xs)
earlier_named name xs ys =
    let e : 0 + length xs ≡ length xs = omega arith in
    rw (← e) (named_there name 0 xs ys)
