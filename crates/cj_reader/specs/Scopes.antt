-- What is known where an instruction stands: registers, labels and functions.
use Rattle.std.specs.List.{position_from}
use Rattle.std.specs.Prelude.{ℕ, ℤ, ◌+◌, List, [], ◌∷◌, Option, None, Some, cond, position}
use Rattle.std.specs.Ordering.{int_eq}
use Rattle.std.specs.Str.{bytes_eq}
use Rattle.cj_reader.specs.declared.scope.Callee.{Callee}

-- what the tokens in front of a function's body say of it: its name, and how many parameters are written
pub record Head : Type 0 where
  pub name : List ℕ
  pub params : ℕ

-- the place of a name among names, and of a number among numbers
abbrev pub name_place : List (List ℕ) → List ℕ → Option ℕ
name_place names name = position (λ other. bytes_eq other name) names

abbrev pub number_place : List ℤ → ℤ → Option ℕ
number_place numbers number = position_from (λ other. int_eq other number) 0 numbers

-- The first of the functions that has the name, where the first one of them is the n-th of its text.
abbrev pub first_named : ℕ → List Head → List ℕ → Option Callee
first_named n [] name = None
first_named n (head ∷ heads) name =
    cond (bytes_eq head.name name) (Some (record { function = record { 0 = n }; params = head.params })) (first_named (n + 1) heads name)

-- The names of the registers, the place of the line that has a number, and the function that has a name.
pub record Scope : Type 0 where
  pub registers : List (List ℕ)
  pub line_at : ℤ → Option ℕ
  pub function_at : List ℕ → Option Callee

-- in a function with these registers and these numbers of lines, in a text with these functions
abbrev pub scope_of : List Head → List (List ℕ) → List ℤ → Scope
scope_of heads names numbers =
    record { registers = names; line_at = number_place numbers; function_at = first_named 0 heads }
