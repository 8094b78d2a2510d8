-- Functions: what they mean, and the offences of their tokens.
use Rattle.std.specs.Prelude.{ℕ, ℤ, pos, negsuc, List, [], ◌∷◌, ◌++◌, length, ◌||◌, not, None, Some, map, nat_le, ◌==◌}
use Rattle.std.specs.List.{list_any}
use Rattle.std.specs.Ordering.{int_eq}
use Rattle.std.specs.Str.{bytes_eq}
use Rattle.cj_ir.specs.declared.language.Line.{Line}
use Rattle.cj_ir.specs.declared.language.Function.{Function}
use Rattle.cj_tokens.specs.Lexemes.{Lexeme}
use Rattle.cj_tokens.specs.declared.refusal.Kind.TheVariants.{TooMany, NameTwice, Range, LabelTwice, NoEntry}
use Rattle.cj_tokens.specs.declared.refusal.Refused.{Refused}
use Rattle.cj_grammar.specs.Grammar.{Tree, opt, seq}
use Rattle.cj_grammar.specs.Rules.{one, names, more_names, line, lines, head, fun}
use Rattle.cj_tokens.specs.declared.terminal.Terminal.TheVariants as terminal
use Rattle.cj_grammar.specs.Reading.{offends_if, each_offends}
use Rattle.cj_reader.specs.Scopes.{Scope, Head, scope_of}
use Rattle.cj_reader.specs.Operands.{is_long, is_line_number}
use Rattle.cj_reader.specs.Instructions.{instr_offences, instr_of}
use Rattle.cj_ir.specs.declared.limits.TheConstants.{MAX_FUNCTIONS, MAX_LABELS, MAX_PARAMS, MAX_REGS}

-- ---- names

-- a declared NAME, behind the ones declared before it in a list of at most so many
abbrev pub name_offences : ℕ → List (List ℕ) → Lexeme → List Refused
name_offences limit earlier t =
    offends_if (is_long t || nat_le limit (length earlier)) t TooMany ++ offends_if (list_any (λ other. bytes_eq other t.text) earlier) t NameTwice

unfoldable pub name_tokens : Tree (opt names) → List Lexeme
unfolding names more_names
name_tokens None = []
name_tokens (Some (first, more)) = first.token ∷ map (λ (comma, next). next.token) more

abbrev pub names_offences : ℕ → List (List ℕ) → List Lexeme → List Refused
names_offences limit = each_offends (name_offences limit) (λ t. t.text)

abbrev pub texts_of : List Lexeme → List (List ℕ)
texts_of = map (λ t. t.text)

-- ---- heads

-- the tokens of a head that are names: the function's, the parameters, and the other registers
unfoldable pub function_name : Tree head → Lexeme
unfolding head
function_name (word, (name, (left, (params, (others, right))))) = name.token

unfoldable pub other_names : Tree (opt (seq (one terminal.Semicolon) names)) → List Lexeme
other_names None = []
other_names (Some (semicolon, others)) = name_tokens (Some others)

unfoldable pub param_tokens : Tree head → List Lexeme
unfolding head
param_tokens (word, (name, (left, (params, (others, right))))) = name_tokens params

unfoldable pub other_tokens : Tree head → List Lexeme
unfolding head
other_tokens (word, (name, (left, (params, (others, right))))) = other_names others

abbrev pub head_of : Tree head → Head
head_of t = record { name = (function_name t).text; params = length (param_tokens t) }

-- the registers: the parameters, and then the others
abbrev pub registers_of : Tree head → List (List ℕ)
registers_of t = texts_of (param_tokens t) ++ texts_of (other_tokens t)

-- the function's NAME, behind the names of the functions before it, its parameters and its registers: not too many of each
abbrev pub head_offences : List (List ℕ) → Tree head → List Refused
head_offences earlier t =
    name_offences MAX_FUNCTIONS earlier (function_name t)
    ++ (names_offences MAX_PARAMS [] (param_tokens t) ++ names_offences MAX_REGS (texts_of (param_tokens t)) (other_tokens t))

-- ---- lines

unfoldable pub line_number : Tree line → Lexeme
unfolding line
line_number (number, (colon, i)) = number.token

-- a line's NUM, behind the numbers of the lines before it
abbrev pub number_offences : List ℤ → Lexeme → List Refused
number_offences earlier t =
    offends_if (nat_le MAX_LABELS (length earlier)) t TooMany
    ++ (offends_if (not (is_line_number t.number)) t Range ++ offends_if (list_any (λ other. int_eq other t.number) earlier) t LabelTwice)

unfoldable pub line_offences : Scope → List ℤ → Tree line → List Refused
unfolding line
line_offences s earlier (number, (colon, i)) = number_offences earlier number.token ++ instr_offences s i

abbrev pub natural : ℤ → ℕ
natural (pos n) = n
natural (negsuc n) = 0

unfoldable pub line_of : Scope → Tree line → Line
unfolding line
line_of s (number, (colon, i)) = record { name = natural number.token.number; instr = instr_of s i }

unfoldable pub numbers_of : Tree lines → List ℤ
unfolding lines
numbers_of ts = map (λ t. (line_number t).number) ts

unfoldable pub lines_offences : Scope → Tree lines → List Refused
unfolding lines
lines_offences s ts = each_offends (line_offences s) (λ t. (line_number t).number) [] ts

unfoldable pub lines_of : Scope → Tree lines → List Line
unfolding lines
lines_of s ts = map (line_of s) ts

-- ---- functions

unfoldable pub function_head : Tree fun → Tree head
unfolding fun
function_head (front, (left, (body, right))) = front

abbrev pub function_scope : List Head → Tree head → Tree lines → Scope
function_scope heads front body = scope_of heads (registers_of front) (numbers_of body)

-- of a function in a text with these heads, behind functions of these names
unfoldable pub function_offences : List Head → List (List ℕ) → Tree fun → List Refused
unfolding fun
function_offences heads earlier (front, (left, (body, right))) =
    head_offences earlier front ++ (lines_offences (function_scope heads front body) body ++ offends_if (length (numbers_of body) == 0) right.token NoEntry)

unfoldable pub function_of : List Head → Tree fun → Function
unfolding fun
function_of heads (front, (left, (body, right))) = record {
  name = (function_name front).text;
  params = length (param_tokens front);
  regs = registers_of front;
  code = lines_of (function_scope heads front body) body;
}
