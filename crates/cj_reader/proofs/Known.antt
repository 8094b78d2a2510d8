-- What the code knows is what the tokens say.
use Rattle.std.proofs.Common.{◌≡◌, ℕ, ℤ, List, [], ap, ◌∙◌}
use Rattle.std.specs.Prelude.{Option}
use Rattle.cj_tokens.specs.Lexemes.{Lexeme}
use Rattle.cj_grammar.specs.Readers.{each_at}
use Rattle.cj_reader.specs.declared.scope.Labels.{Labels}
use Rattle.cj_reader.specs.declared.scope.Functions.{Functions}
use Rattle.cj_reader.specs.Scopes.{Scope, number_place, first_named}
use Rattle.cj_reader.specs.Prescans.{numbers_at, heads_at}
use Rattle.cj_reader.specs.Known.{place_in, function_in, ListsLines, ListsFunctions}
use Rattle.cj_reader.specs.Reading.{Known, body_at, code_at, function_at, functions_at}

alike : {A B : Type 0} (f g : A → B) → ((x : A) → f x ≡ g x) → f ≡ g
alike f g h = λ i x. h x i

pub code_same : (known : Known) (registers : List (List ℕ)) (labels : Labels) (ts : List Lexeme) → ListsLines (numbers_at ts) labels →
    body_at (record { registers = registers; line_at = place_in labels; function_at = known }) labels.count ts ≡ code_at known registers ts
code_same known registers labels ts h =
    let places : place_in labels ≡ number_place (numbers_at ts) = alike (place_in labels) (number_place (numbers_at ts)) h.places in
    let scope : (ℤ → Option ℕ) → Scope = λ p. record { registers = registers; line_at = p; function_at = known } in
    ap (λ p. body_at (scope p) labels.count ts) places ∙ ap (λ n. body_at (scope (number_place (numbers_at ts))) n ts) h.count

pub functions_same : (functions : Functions) (ts : List Lexeme) → ListsFunctions (heads_at ts) functions →
    each_at (function_at (function_in functions)) functions.count [] ts ≡ functions_at ts
unfolding functions_at
functions_same functions ts h =
    let same : function_in functions ≡ first_named 0 (heads_at ts) = alike (function_in functions) (first_named 0 (heads_at ts)) h.callees in
    ap (λ known. each_at (function_at known) functions.count [] ts) same ∙ ap (λ n. each_at (function_at (first_named 0 (heads_at ts))) n [] ts) h.count
