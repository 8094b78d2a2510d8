-- What a script means behind its program, and the offences of its tokens from the left. A token's own offences
-- stand in the order of their table, and the highest of them counts.
use Rattle.std.specs.Prelude.{ℕ, ℤ, pos, ◌+ℤ◌, Bool, false, true, not, ◌&&◌, List, [], ◌∷◌, ◌++◌, length, map, take, Option, None, Some, unwrap_or, position}
use Rattle.std.specs.Prelude.{nat_le, nat_lt, int_le, int_lt, unsigned_abs, ◌==◌}
use Rattle.std.specs.List.{find}
use Rattle.std.specs.Ordering.{int_eq}
use Rattle.std.specs.Str.{bytes_eq}
use Rattle.std.proofs.Common.{inl, inr}
use Rattle.cj_ir.specs.declared.language.Edge.{Edge}
use Rattle.cj_ir.specs.declared.language.Edge.TheVariants.{Then, Else}
use Rattle.cj_ir.specs.declared.language.FunId.{FunId}
use Rattle.cj_ir.specs.declared.language.Function.{Function}
use Rattle.cj_ir.specs.declared.language.Instr.{Instr}
use Rattle.cj_ir.specs.declared.language.Instr.TheVariants as instr
use Rattle.cj_ir.specs.declared.language.Label.{Label}
use Rattle.cj_ir.specs.declared.language.Line.{Line}
use Rattle.cj_ir.specs.declared.language.Program.{Program}
use Rattle.cj_ir.specs.declared.script.Script.{Script}
use Rattle.cj_ir.specs.declared.script.ScriptCall.{ScriptCall}
use Rattle.cj_ir.specs.declared.script.Setup.{Setup}
use Rattle.cj_ir.specs.declared.script.Setup.TheVariants.{Guess, Cold, Warm}
use Rattle.cj_tokens.specs.Lexemes.{Lexeme}
use Rattle.cj_tokens.specs.declared.refusal.Kind.TheVariants.{TooMany, NoRegister, NoLabel, NoFunction, Arguments, NotCond, Range}
use Rattle.cj_tokens.specs.declared.refusal.Refused.{Refused}
use Rattle.cj_grammar.specs.Grammar.{Tree}
use Rattle.cj_grammar.specs.Reading.{offends_if, missing, highest, each_offends}
use Rattle.cj_grammar.specs.Rules.{numbers, begun, script_call, script_calls, guess_setup, edge, cold_setup, warm_setup, setup, setups, script}
use Rattle.cj_ir.specs.declared.limits.TheConstants.{MAX_NAME}
use Rattle.cj_script.specs.declared.limits.TheConstants.{MAX_CALLS, USUAL_CELLS}

-- ---- tokens

-- a NAME of too many bytes
abbrev pub long_name : Lexeme → List Refused
long_name t = offends_if (nat_lt MAX_NAME (length t.text)) t TooMany

-- a NUM outside a range
abbrev pub out_of_range : ℤ → ℤ → Lexeme → List Refused
out_of_range low high t = offends_if (not (int_le low t.number && int_le t.number high)) t Range

-- ---- functions and what stands in them

abbrev pub is_named : Lexeme → Function → Bool
is_named name f = bytes_eq f.name name.text

-- the function that a NAME names, and its number
abbrev pub function_named : List Function → Lexeme → Option Function
function_named functions name = find (is_named name) functions

abbrev pub id_named : List Function → Lexeme → FunId
id_named functions name = record { 0 = unwrap_or (position (is_named name) functions) 0 }

-- the number of the parameter that a NAME names
abbrev pub parameter_named : Function → Lexeme → Option ℕ
parameter_named f name = position (λ parameter. bytes_eq parameter name.text) (take f.params f.regs)

-- a line has the number that a NUM writes
abbrev pub is_numbered : Lexeme → Line → Bool
is_numbered number line = int_eq (pos line.name) number.number

-- the line that a NUM numbers, and its label
abbrev pub line_numbered : Function → Lexeme → Option Line
line_numbered f number = find (is_numbered number) f.code

abbrev pub label_numbered : Function → Lexeme → ℕ
label_numbered f number = unwrap_or (position (is_numbered number) f.code) 0

abbrev pub is_cond : Instr → Bool
is_cond (instr.Cond test then_to else_to) = true
is_cond _ = false

-- ---- the NAME of a function

unfoldable pub function_offences : List Function → Lexeme → List Refused
function_offences functions name = highest (long_name name ++ missing (function_named functions name) name NoFunction)

-- a function has another number of parameters
abbrev pub other_count : Option Function → ℕ → Lexeme → List Refused
other_count None count name = []
other_count (Some f) count name = offends_if (not (f.params == count)) name Arguments

-- the NAME of a function that is called with that many arguments
unfoldable pub callee_offences : List Function → ℕ → Lexeme → List Refused
callee_offences functions count name =
    highest (function_offences functions name ++ other_count (function_named functions name) count name)

-- ---- what begins a run, behind its first word

-- all limits together are at most 4,000,000
abbrev pub limit_offences : ℤ → Lexeme → List Refused
limit_offences spent limit =
    highest
    (offends_if (int_lt (pos 4000000) (spent +ℤ limit.number)) limit TooMany
    ++ out_of_range (pos 1) (pos 1000000) limit)

-- The offences of a run's tokens, where `spent` is the sum of the limits before it.
unfoldable pub begun_offences : List Function → ℤ → Tree begun → List Refused
unfolding begun numbers
begun_offences functions spent (name, (args, (None, (word, limit)))) =
    callee_offences functions (length args) name.token ++ limit_offences spent limit.token
begun_offences functions spent (name, (args, (Some (memory, cells), (word, limit)))) =
    callee_offences functions (length args) name.token
    ++ (out_of_range (pos 0) (pos 65536) cells.token ++ limit_offences spent limit.token)

-- as many cells as are usual where nothing is said
unfoldable pub cells_of : Tree begun → ℕ
unfolding begun
cells_of (name, (args, (None, (word, limit)))) = USUAL_CELLS
cells_of (name, (args, (Some (memory, cells), (word, limit)))) = unsigned_abs cells.token.number

-- the limit as it is written
unfoldable pub limit_of : Tree begun → ℤ
unfolding begun
limit_of (name, (args, (memory, (word, limit)))) = limit.token.number

unfoldable pub begun_of : List Function → Tree begun → ScriptCall
unfolding begun numbers
begun_of functions (name, (args, rest)) =
    record {
      function = id_named functions name.token;
      args = map (λ arg. arg.token.number) args;
      cells = cells_of (name, (args, rest));
      limit = unsigned_abs (limit_of (name, (args, rest)));
    }

-- ---- calls

unfoldable pub call_limit : Tree script_call → ℤ
unfolding script_call
call_limit (word, call) = limit_of call

-- the sum of their limits
unfoldable pub spent_by : List (Tree script_call) → ℤ
spent_by [] = pos 0
spent_by (call ∷ calls) = call_limit call +ℤ spent_by calls

-- at most so many calls
unfoldable pub call_offences : List Function → List (Tree script_call) → Tree script_call → List Refused
unfolding script_call
call_offences functions earlier (word, call) =
    offends_if (nat_le MAX_CALLS (length earlier)) word.token TooMany ++ begun_offences functions (spent_by earlier) call

unfoldable pub calls_offences : List Function → Tree script_calls → List Refused
unfolding script_calls
calls_offences functions calls = each_offends (call_offences functions) (λ call. call) [] calls

unfoldable pub call_of : List Function → Tree script_call → ScriptCall
unfolding script_call
call_of functions (word, call) = begun_of functions call

unfoldable pub calls_of : List Function → Tree script_calls → List ScriptCall
unfolding script_calls
calls_of functions calls = map (call_of functions) calls

-- ---- setups

-- the NAME of a parameter; where there is no function, it is not looked up
abbrev pub parameter_offences : Option Function → Lexeme → List Refused
parameter_offences None name = long_name name
parameter_offences (Some f) name = highest (long_name name ++ missing (parameter_named f name) name NoRegister)

abbrev pub parameter_of : Option Function → Lexeme → ℕ
parameter_of None name = 0
parameter_of (Some f) name = unwrap_or (parameter_named f name) 0

abbrev pub no_cond : Option Line → Lexeme → List Refused
no_cond None number = []
no_cond (Some line) number = offends_if (not (is_cond line.instr)) number NotCond

-- the number of a `cond`
abbrev pub label_offences : Option Function → Lexeme → List Refused
label_offences None number = []
label_offences (Some f) number = missing (line_numbered f number) number NoLabel ++ no_cond (line_numbered f number) number

abbrev pub label_of : Option Function → Lexeme → Label
label_of None number = record { 0 = 0 }
label_of (Some f) number = record { 0 = label_numbered f number }

unfoldable pub guess_offences : List Function → Tree guess_setup → List Refused
unfolding guess_setup
guess_offences functions (word, (name, (parameter, value))) =
    function_offences functions name.token
    ++ parameter_offences (function_named functions name.token) parameter.token

unfoldable pub guess_of : List Function → Tree guess_setup → Setup
unfolding guess_setup
guess_of functions (word, (name, (parameter, value))) =
    Guess
    (id_named functions name.token)
    (parameter_of (function_named functions name.token) parameter.token)
    value.token.number

unfoldable pub cold_offences : List Function → Tree cold_setup → List Refused
unfolding cold_setup
cold_offences functions (word, (name, (number, side))) =
    function_offences functions name.token ++ label_offences (function_named functions name.token) number.token

unfoldable pub edge_of : Tree edge → Edge
unfolding edge
edge_of (inl word) = Then
edge_of (inr word) = Else

unfoldable pub cold_of : List Function → Tree cold_setup → Setup
unfolding cold_setup
cold_of functions (word, (name, (number, side))) =
    Cold (id_named functions name.token) (label_of (function_named functions name.token) number.token) (edge_of side)

unfoldable pub warm_offences : List Function → Tree warm_setup → List Refused
unfolding warm_setup
warm_offences functions (word, (name, level)) =
    function_offences functions name.token ++ out_of_range (pos 1) (pos 3) level.token

unfoldable pub warm_of : List Function → Tree warm_setup → Setup
unfolding warm_setup
warm_of functions (word, (name, level)) = Warm (id_named functions name.token) (unsigned_abs level.token.number)

unfoldable pub setup_offences : List Function → Tree setup → List Refused
unfolding setup
setup_offences functions (inl guess) = guess_offences functions guess
setup_offences functions (inr (inl cold)) = cold_offences functions cold
setup_offences functions (inr (inr warm)) = warm_offences functions warm

unfoldable pub setup_of : List Function → Tree setup → Setup
unfolding setup
setup_of functions (inl guess) = guess_of functions guess
setup_of functions (inr (inl cold)) = cold_of functions cold
setup_of functions (inr (inr warm)) = warm_of functions warm

unfoldable pub setups_offences : List Function → Tree setups → List Refused
unfolding setups
setups_offences functions lines = each_offends (λ earlier line. setup_offences functions line) (setup_of functions) [] lines

unfoldable pub setups_of : List Function → Tree setups → List Setup
unfolding setups
setups_of functions lines = map (setup_of functions) lines

-- ---- scripts

-- the offences of a script's tokens, from the left
unfoldable pub script_offences : Program → Tree script → List Refused
unfolding script
script_offences p (word, (lines, calls)) = setups_offences p.functions lines ++ calls_offences p.functions calls

unfoldable pub script_of : Program → Tree script → Script
unfolding script
script_of p (word, (lines, calls)) =
    record { setups = setups_of p.functions lines; calls = calls_of p.functions calls }
