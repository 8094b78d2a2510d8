-- The loops of the grammar, turn by turn: one part more, or none; and a part takes tokens.
use Rattle.std.proofs.Common.{◌≡◌, ◌<◌, true, false, List, length, Ok, refl}
use Rattle.cj_tokens.specs.Lexemes.{Lexeme, is_terminal}
use Rattle.cj_tokens.specs.Passing.{front}
use Rattle.cj_tokens.specs.declared.terminal.Terminal.TheVariants.{Name, Comma, Number, Fun, Call}
use Rattle.cj_grammar.specs.OneAhead.{starts, ◌>>=◌, eat}
use Rattle.cj_grammar.specs.Rules.{one, ◌▸◌, operand, more_operands, more_names, line, lines, head, fun, more_funs, guess_setup, cold_setup, warm_setup, setup}
use Rattle.cj_grammar.specs.Rules.{setups, numbers, script_call, script_calls}
use Rattle.cj_grammar.proofs.Ahead.{begun_by, not_begun_by}
use Rattle.cj_grammar.proofs.Begins.{shorter}
use Rattle.cj_grammar.proofs.Repeats.{many_goes, many_stops}

pub more_names_go : (a : List Lexeme) → is_terminal Comma (front a) ≡ true → eat more_names a ≡ (eat (one Comma ▸ one Name) a >>= eat more_names)
unfolding more_names
more_names_go a k = many_goes (one Comma ▸ one Name) a refl (begun_by Comma a refl k)

pub more_names_stop : (a : List Lexeme) → is_terminal Comma (front a) ≡ false → eat more_names a ≡ Ok a
unfolding more_names
more_names_stop a k = many_stops (one Comma ▸ one Name) a refl (not_begun_by Comma a refl k)

pub next_name_shorter : (a b : List Lexeme) → eat (one Comma ▸ one Name) a ≡ Ok b → length b < length a
next_name_shorter a b h = shorter (one Comma ▸ one Name) a b refl h

pub more_operands_go : (a : List Lexeme) → is_terminal Comma (front a) ≡ true → eat more_operands a ≡ (eat (one Comma ▸ operand) a >>= eat more_operands)
unfolding more_operands
more_operands_go a k = many_goes (one Comma ▸ operand) a refl (begun_by Comma a refl k)

pub more_operands_stop : (a : List Lexeme) → is_terminal Comma (front a) ≡ false → eat more_operands a ≡ Ok a
unfolding more_operands
more_operands_stop a k = many_stops (one Comma ▸ operand) a refl (not_begun_by Comma a refl k)

pub next_operand_shorter : (a b : List Lexeme) → eat (one Comma ▸ operand) a ≡ Ok b → length b < length a
next_operand_shorter a b h = shorter (one Comma ▸ operand) a b refl h

pub lines_go : (a : List Lexeme) → is_terminal Number (front a) ≡ true → eat lines a ≡ (eat line a >>= eat lines)
unfolding lines line
lines_go a k = many_goes line a refl (begun_by Number a refl k)

pub lines_stop : (a : List Lexeme) → is_terminal Number (front a) ≡ false → eat lines a ≡ Ok a
unfolding lines line
lines_stop a k = many_stops line a refl (not_begun_by Number a refl k)

pub line_shorter : (a b : List Lexeme) → eat line a ≡ Ok b → length b < length a
unfolding line
line_shorter a b h = shorter line a b refl h

pub more_funs_go : (a : List Lexeme) → is_terminal Fun (front a) ≡ true → eat more_funs a ≡ (eat fun a >>= eat more_funs)
unfolding more_funs fun head
more_funs_go a k = many_goes fun a refl (begun_by Fun a refl k)

pub more_funs_stop : (a : List Lexeme) → is_terminal Fun (front a) ≡ false → eat more_funs a ≡ Ok a
unfolding more_funs fun head
more_funs_stop a k = many_stops fun a refl (not_begun_by Fun a refl k)

pub fun_shorter : (a b : List Lexeme) → eat fun a ≡ Ok b → length b < length a
unfolding fun head
fun_shorter a b h = shorter fun a b refl h

pub numbers_go : (a : List Lexeme) → is_terminal Number (front a) ≡ true → eat numbers a ≡ (eat (one Number) a >>= eat numbers)
unfolding numbers
numbers_go a k = many_goes (one Number) a refl (begun_by Number a refl k)

pub numbers_stop : (a : List Lexeme) → is_terminal Number (front a) ≡ false → eat numbers a ≡ Ok a
unfolding numbers
numbers_stop a k = many_stops (one Number) a refl (not_begun_by Number a refl k)

pub number_shorter : (a b : List Lexeme) → eat (one Number) a ≡ Ok b → length b < length a
number_shorter a b h = shorter (one Number) a b refl h

pub script_calls_go : (a : List Lexeme) → is_terminal Call (front a) ≡ true → eat script_calls a ≡ (eat script_call a >>= eat script_calls)
unfolding script_calls script_call
script_calls_go a k = many_goes script_call a refl (begun_by Call a refl k)

pub script_calls_stop : (a : List Lexeme) → is_terminal Call (front a) ≡ false → eat script_calls a ≡ Ok a
unfolding script_calls script_call
script_calls_stop a k = many_stops script_call a refl (not_begun_by Call a refl k)

pub script_call_shorter : (a b : List Lexeme) → eat script_call a ≡ Ok b → length b < length a
unfolding script_call
script_call_shorter a b h = shorter script_call a b refl h

pub setups_go : (a : List Lexeme) → starts setup a ≡ true → eat setups a ≡ (eat setup a >>= eat setups)
unfolding setups setup guess_setup cold_setup warm_setup
setups_go a s = many_goes setup a refl s

pub setups_stop : (a : List Lexeme) → starts setup a ≡ false → eat setups a ≡ Ok a
unfolding setups setup guess_setup cold_setup warm_setup
setups_stop a s = many_stops setup a refl s

pub setup_shorter : (a b : List Lexeme) → eat setup a ≡ Ok b → length b < length a
unfolding setup guess_setup cold_setup warm_setup
setup_shorter a b h = shorter setup a b refl h
