-- What the code knows where an instruction stands.
use Rattle.std.specs.Prelude.{◌≡◌, ℕ, ℤ, List, length, Option, None, Some, Bool, cond, Result, Ok, Err}
use Rattle.std.specs.Ordering.{int_eq}
use Rattle.std.specs.Str.{bytes_eq}
use Rattle.indexmap.specs.IndexMap.{get_by}
use Rattle.cj_tokens.specs.Lexemes.{Lexeme}
use Rattle.cj_tokens.specs.declared.refusal.ParseError.{ParseError}
use Rattle.cj_grammar.specs.Readers.{Fails, Read}
use Rattle.cj_reader.specs.declared.scope.Callee.{Callee}
use Rattle.cj_reader.specs.declared.scope.Labels.{Labels}
use Rattle.cj_reader.specs.declared.scope.Functions.{Functions}
use Rattle.cj_reader.specs.declared.scope.Scope as code
use Rattle.cj_reader.specs.Scopes.{Scope, Head, number_place, first_named}

-- the place of the line with a number
abbrev pub place_in : Labels → ℤ → Option ℕ
place_in labels number = get_by (int_eq number) labels.places

-- the function with a name
abbrev pub function_in : Functions → List ℕ → Option Callee
function_in functions name = get_by (λ key. bytes_eq name key.now) functions.callees

-- what is found once another thing was added, of which only the first that came counts
abbrev pub first_of : {X : Type 0} → Option X → Bool → X → Option X
first_of None same x = cond same (Some x) None
first_of (Some y) same x = Some y

-- the table has these numbers of lines
pub record ListsLines (numbers : List ℤ) (labels : Labels) : Type 0 where
  pub count : labels.count ≡ length numbers
  pub places : (number : ℤ) → place_in labels number ≡ number_place numbers number

-- the table has the functions of these heads
pub record ListsFunctions (heads : List Head) (functions : Functions) : Type 0 where
  pub count : functions.count ≡ length heads
  pub callees : (name : List ℕ) → function_in functions name ≡ first_named 0 heads name

abbrev pub scope_in : code.Scope → Scope
scope_in s =
    record { registers = s.registers.now; line_at = place_in s.labels.now; function_at = function_in s.functions.now }

-- What the code answered that appended to items, where a reader of lists is given.
abbrev pub Grows : {X : Type 0} → Result (Unit {0}) ParseError → X → List Lexeme → Read X → Type 0
Grows (Ok u) items left read = read ≡ Ok (items, left)
Grows (Err error) items left read = Fails error read
