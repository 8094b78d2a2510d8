-- The tables of lines and functions, as they grow.
use Rattle.std.proofs.Common.{◌≡◌, ℕ, ℤ, ◌+◌, List, [], ◌∷◌, ◌++◌, length, Bool, true, false, cond, refl, ap, sym, ◌∙◌, arith}
use Rattle.std.specs.Prelude.{Option, None, Some, is_some}
use Rattle.std.specs.List.{position_from}
use Rattle.std.specs.Ordering.{int_eq}
use Rattle.std.specs.Str.{bytes_eq}
use Rattle.std.proofs.lemmas.List.{length_push}
use Rattle.std.proofs.lemmas.Slice.Eq.{bytes_eq-Decides}
use Rattle.cj_reader.specs.declared.scope.Callee.{Callee}
use Rattle.cj_reader.specs.declared.scope.Labels.{Labels}
use Rattle.cj_reader.specs.declared.scope.Functions.{Functions}
use Rattle.cj_reader.specs.Scopes.{Head, number_place, first_named}
use Rattle.cj_reader.specs.Known.{place_in, function_in, first_of, ListsLines, ListsFunctions}

-- what is not there yet is added
pub added : {X : Type 0} (o : Option X) (same : Bool) (x : X) → (same ≡ true → o ≡ None) → cond same (Some x) o ≡ first_of o same x
added None true x h = refl
added None false x h = refl
added (Some y) true x h = let d : Some y ≡ None = h refl in cc
added (Some y) false x h = refl

place_more : {A : Type 0} (test : A → Bool) (i : ℕ) (xs : List A) (x : A) →
    position_from test i (xs ++ x ∷ []) ≡ first_of (position_from test i xs) (test x) (i + length xs)
place_more test i [] x = elim (test x) as (λ b. cond b (Some i) None ≡ cond b (Some (i + 0)) None)
    [ true ↦ ap Some (let e : i ≡ i + 0 = omega arith in e) | false ↦ refl ]
place_more test i (y ∷ xs) x = elim (test y) as (λ b. cond b (Some i) (position_from test (i + 1) (xs ++ x ∷ []))
    ≡ first_of (cond b (Some i) (position_from test (i + 1) xs)) (test x) (i + length (y ∷ xs))) [
      | true ↦ refl
      | false ↦ (let e : (i + 1) + length xs ≡ i + length (y ∷ xs) = omega arith in rw (← e) (place_more test (i + 1) xs x))
    ]

abbrev callee_of : ℕ → Head → Callee
callee_of n head = record { function = record { 0 = n }; params = head.params }

named_more : (name : List ℕ) (i : ℕ) (xs : List Head) (x : Head) →
    first_named i (xs ++ x ∷ []) name ≡ first_of (first_named i xs name) (bytes_eq x.name name) (callee_of (i + length xs) x)
named_more name i [] x = elim (bytes_eq x.name name) as (λ b. cond b (Some (callee_of i x)) None ≡ cond b (Some (callee_of (i + 0) x)) None)
    [ true ↦ ap (λ n. Some (callee_of n x)) (let e : i ≡ i + 0 = omega arith in e) | false ↦ refl ]
named_more name i (y ∷ xs) x = elim (bytes_eq y.name name) as (λ b. cond b (Some (callee_of i y)) (first_named (i + 1) (xs ++ x ∷ []) name)
    ≡ first_of (cond b (Some (callee_of i y)) (first_named (i + 1) xs name)) (bytes_eq x.name name) (callee_of (i + length (y ∷ xs)) x)) [
      | true ↦ refl
      | false ↦ (let e : (i + 1) + length xs ≡ i + length (y ∷ xs) = omega arith in rw (← e) (named_more name (i + 1) xs x))
    ]

pub lists_lines : (numbers : List ℤ) (number : ℤ) (old new : Labels) → ListsLines numbers old → new.count ≡ old.count + 1 →
    ((n : ℤ) → place_in new n ≡ first_of (place_in old n) (int_eq number n) old.count) → ListsLines (numbers ++ number ∷ []) new
lists_lines numbers number old new h c p = record {
  count = c ∙ (ap (λ n. n + 1) h.count ∙ sym (length_push numbers number));
  places = λ n. p n ∙ (rw (h.places n, h.count)
      (sym (place_more (λ other. int_eq other n) 0 numbers number
      ∙ ap (first_of (number_place numbers n) (int_eq number n)) (let e : 0 + length numbers ≡ length numbers = omega arith in e))));
}

pub lists_functions : (heads : List Head) (head : Head) (old new : Functions) → ListsFunctions heads old → new.count ≡ old.count + 1 →
    ((n : List ℕ) → function_in new n
    ≡ first_of (function_in old n) (bytes_eq head.name n) (record { function = record { 0 = old.count }; params = head.params })) →
    ListsFunctions (heads ++ head ∷ []) new
lists_functions heads head old new h c p = record {
  count = c ∙ (ap (λ n. n + 1) h.count ∙ sym (length_push heads head));
  callees = λ n. p n ∙
      (rw (h.callees n, h.count)
      (sym (named_more n 0 heads head
      ∙ ap (λ k. first_of (first_named 0 heads n) (bytes_eq head.name n) (callee_of k head)) (let e : 0 + length heads ≡ length heads = omega arith in e))));
}

is_none : {X : Type 0} (o : Option X) → is_some o ≡ false → o ≡ None
is_none None h = refl
is_none (Some x) h = cc

pub absent_named : (functions : Functions) (name n : List ℕ) (o : Option Callee) → o ≡ function_in functions name → is_some o ≡ false →
    bytes_eq name n ≡ true → function_in functions n ≡ None
absent_named functions name n o h none same =
    let e : name ≡ n = (bytes_eq-Decides name n).0 same in
    ap (function_in functions) (sym e) ∙ (sym h ∙ is_none o none)
