-- What a script's tokens mean, read from the left. Their order is the grammar's.
use Rattle.std.specs.Prelude.{ℕ, zero, suc, ℤ, pos, Bool, cond, ◌||◌, List, [], ◌∷◌, ◌++◌, length, Result, Ok, Err, unsigned_abs, nat_le}
use Rattle.std.specs.List.{sum_by}
use Rattle.cj_ir.specs.declared.language.Edge.{Edge}
use Rattle.cj_ir.specs.declared.language.Edge.TheVariants.{Then, Else}
use Rattle.cj_ir.specs.declared.language.Function.{Function}
use Rattle.cj_ir.specs.declared.script.Script.{Script}
use Rattle.cj_ir.specs.declared.script.ScriptCall.{ScriptCall}
use Rattle.cj_ir.specs.declared.script.Setup.{Setup}
use Rattle.cj_ir.specs.declared.script.Setup.TheVariants as setups
use Rattle.cj_tokens.specs.Lexemes.{Lexeme, is_terminal}
use Rattle.cj_tokens.specs.Passing.{front, behind}
use Rattle.cj_tokens.specs.declared.refusal.Kind.TheVariants.{TooMany}
use Rattle.cj_tokens.specs.declared.refusal.Refused.{Refused}
use Rattle.cj_tokens.specs.declared.terminal.Terminal.TheVariants as terminal
use Rattle.cj_grammar.specs.OneAhead.{◌>>=◌}
use Rattle.cj_grammar.specs.Reading.{offence}
use Rattle.cj_grammar.specs.Readers.{Read}
use Rattle.cj_script.specs.Meaning.{function_named, id_named, out_of_range, function_offences, callee_offences, limit_offences, parameter_offences}
use Rattle.cj_script.specs.Meaning.{parameter_of, label_offences, label_of}
use Rattle.cj_script.specs.declared.limits.TheConstants.{MAX_CALLS, USUAL_CELLS}

-- the first offence, or a value
abbrev pub judged : {X : Type 0} → List Refused → X → Result X Refused
judged [] x = Ok x
judged (e ∷ es) x = Err e

-- ---- what begins a run

-- the numbers that stand next
unfoldable pub numbers_at : List Lexeme → List ℤ
numbers_at [] = []
numbers_at (t ∷ ts) = cond (is_terminal terminal.Number t) (t.number ∷ numbers_at ts) []

unfoldable pub behind_numbers : List Lexeme → List Lexeme
behind_numbers [] = []
behind_numbers (t ∷ ts) = cond (is_terminal terminal.Number t) (behind_numbers ts) (t ∷ ts)

-- `memory` with the cells, if it stands there
unfoldable pub cells_at : List Lexeme → Read ℕ
cells_at ts =
    cond
    (is_terminal terminal.Memory (front ts))
    (judged (out_of_range (pos 0) (pos 65536) (front (behind ts))) (unsigned_abs (front (behind ts)).number)
    >>= λ cells. Ok (cells, behind (behind ts)))
    (Ok (USUAL_CELLS, ts))

unfoldable pub limit_at : ℕ → List Lexeme → Read ℕ
limit_at spent ts =
    judged (limit_offences (pos spent) (front (behind ts))) (unsigned_abs (front (behind ts)).number)
    >>= λ limit. Ok (limit, behind (behind ts))

-- behind the first word
unfoldable pub begun_at : List Function → ℕ → List Lexeme → Read ScriptCall
begun_at functions spent ts =
    judged (callee_offences functions (length (numbers_at (behind ts))) (front ts)) (id_named functions (front ts))
    >>= λ function. cells_at (behind_numbers (behind ts))
    >>= λ cells. limit_at spent cells.1
    >>= λ limit.
    Ok
    (record { function = function; args = numbers_at (behind ts); cells = cells.0; limit = limit.0 }, limit.1)

-- ---- items one after another, each read behind the earlier ones

abbrev pub many_at : {X : Type 0} → (List Lexeme → Bool) → (List X → List Lexeme → Read X) → ℕ → List X → List Lexeme → Read (List X)
many_at more one zero earlier ts = Ok (earlier, ts)
many_at more one (suc n) earlier ts =
    cond (more ts) (one earlier ts >>= λ x. many_at more one n (earlier ++ x.0 ∷ []) x.1) (Ok (earlier, ts))

-- as long as one more begins
unfoldable pub all_at : {X : Type 0} → (List Lexeme → Bool) → (List X → List Lexeme → Read X) → List X → List Lexeme → Read (List X)
all_at more one earlier ts = many_at more one (length ts) earlier ts

-- ---- calls

abbrev pub is_call : List Lexeme → Bool
is_call ts = is_terminal terminal.Call (front ts)

abbrev pub limits : List ScriptCall → ℕ
limits calls = sum_by (λ call. call.limit) calls

unfoldable pub call_at : List Function → List ScriptCall → List Lexeme → Read ScriptCall
call_at functions earlier ts =
    cond
    (nat_le MAX_CALLS (length earlier))
    (Err (offence (front ts) TooMany))
    (begun_at functions (limits earlier) (behind ts))

unfoldable pub calls_at : List Function → List ScriptCall → List Lexeme → Read (List ScriptCall)
calls_at functions earlier ts = all_at is_call (call_at functions) earlier ts

-- ---- setups, each behind its first word

unfoldable pub guess_at : List Function → List Lexeme → Read Setup
guess_at functions ts =
    judged (function_offences functions (front ts)) (id_named functions (front ts))
    >>= λ function.
    judged
    (parameter_offences (function_named functions (front ts)) (front (behind ts)))
    (parameter_of (function_named functions (front ts)) (front (behind ts)))
    >>= λ parameter.
    Ok (setups.Guess function parameter (front (behind (behind ts))).number, behind (behind (behind ts)))

abbrev pub edge_at : List Lexeme → Edge
edge_at ts = cond (is_terminal terminal.Then (front ts)) Then Else

unfoldable pub cold_at : List Function → List Lexeme → Read Setup
cold_at functions ts =
    judged (function_offences functions (front ts)) (id_named functions (front ts))
    >>= λ function.
    judged
    (label_offences (function_named functions (front ts)) (front (behind ts)))
    (label_of (function_named functions (front ts)) (front (behind ts)))
    >>= λ label. Ok (setups.Cold function label (edge_at (behind (behind ts))), behind (behind (behind ts)))

unfoldable pub warm_at : List Function → List Lexeme → Read Setup
warm_at functions ts =
    judged (function_offences functions (front ts)) (id_named functions (front ts))
    >>= λ function.
    judged (out_of_range (pos 1) (pos 3) (front (behind ts))) (unsigned_abs (front (behind ts)).number)
    >>= λ level. Ok (setups.Warm function level, behind (behind ts))

unfoldable pub setup_at : List Function → List Lexeme → Read Setup
setup_at functions ts =
    cond
    (is_terminal terminal.Guess (front ts))
    (guess_at functions (behind ts))
    (cond
    (is_terminal terminal.Cold (front ts))
    (cold_at functions (behind ts))
    (warm_at functions (behind ts)))

abbrev pub is_setup : List Lexeme → Bool
is_setup ts =
    is_terminal terminal.Guess (front ts)
    || is_terminal terminal.Cold (front ts)
    || is_terminal terminal.Warm (front ts)

abbrev pub next_setup : List Function → List Setup → List Lexeme → Read Setup
next_setup functions earlier ts = setup_at functions ts

unfoldable pub setups_at : List Function → List Setup → List Lexeme → Read (List Setup)
setups_at functions earlier ts = all_at is_setup (next_setup functions) earlier ts

-- ---- scripts

unfoldable pub script_at : List Function → List Lexeme → Read Script
script_at functions ts =
    setups_at functions [] (behind ts)
    >>= λ setups. calls_at functions [] setups.1
    >>= λ calls. Ok (record { setups = setups.0; calls = calls.0 }, calls.1)
