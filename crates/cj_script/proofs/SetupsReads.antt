-- What is read of the tokens of setups is their meaning, or the first offence of their tokens.
use Rattle.std.proofs.Common.{◌≡◌, pos, true, false, List, [], ◌++◌, refl, inl, inr}
use Rattle.std.specs.Prelude.{unsigned_abs}
use Rattle.cj_ir.specs.declared.language.Function.{Function}
use Rattle.cj_ir.specs.declared.script.Setup.{Setup}
use Rattle.cj_tokens.specs.Lexemes.{Lexeme, is_terminal}
use Rattle.cj_tokens.specs.Passing.{front, behind}
use Rattle.cj_tokens.specs.declared.terminal.Terminal.TheVariants as terminal
use Rattle.cj_grammar.specs.Grammar.{Tree, leaves}
use Rattle.cj_grammar.specs.Readers.{reads}
use Rattle.cj_grammar.specs.Rules.{guess_setup, edge, cold_setup, warm_setup, setup, setups}
use Rattle.cj_script.specs.Meaning.{function_named, id_named, out_of_range, function_offences, parameter_offences, parameter_of, label_offences, label_of}
use Rattle.cj_script.specs.Meaning.{guess_offences, guess_of, cold_offences, cold_of, edge_of, warm_offences, warm_of, setup_offences, setup_of}
use Rattle.cj_script.specs.Meaning.{setups_offences, setups_of}
use Rattle.cj_script.specs.Reading.{guess_at, cold_at, edge_at, warm_at, setup_at, is_setup, next_setup, setups_at}
use Rattle.cj_script.proofs.BegunReads.{judged_then, judged_last, other_terminal}
use Rattle.cj_script.proofs.SetupTurns.{setup_shorter}
use Rattle.cj_script.proofs.Turns.{all_reads}

guess_reads : (functions : List Function) (t : Tree guess_setup) (ts : List Lexeme) → guess_at functions (behind (leaves guess_setup t ++ ts))
    ≡ reads (guess_offences functions t) (guess_of functions t) ts
unfolding guess_setup guess_at guess_offences guess_of front behind
guess_reads functions (word, (name, (parameter, value))) ts =
    judged_then (function_offences functions name.token) (parameter_offences (function_named functions name.token) parameter.token)
    (id_named functions name.token) _ ts _
    (judged_last (parameter_offences (function_named functions name.token) parameter.token)
    (parameter_of (function_named functions name.token) parameter.token) _ ts _ refl)

edge_reads : (t : Tree edge) (ts : List Lexeme) → edge_at (leaves edge t ++ ts) ≡ edge_of t
unfolding edge edge_of front
edge_reads (inl word) ts = rw word.is refl
edge_reads (inr word) ts =
    let other : is_terminal terminal.Then word.token ≡ false = other_terminal terminal.Else terminal.Then word.token word.is refl in
    rw other refl

edge_passed : (t : Tree edge) (ts : List Lexeme) → behind (leaves edge t ++ ts) ≡ ts
unfolding edge behind
edge_passed (inl word) ts = refl
edge_passed (inr word) ts = refl

cold_reads : (functions : List Function) (t : Tree cold_setup) (ts : List Lexeme) → cold_at functions (behind (leaves cold_setup t ++ ts))
    ≡ reads (cold_offences functions t) (cold_of functions t) ts
unfolding cold_setup cold_at cold_offences cold_of front behind
cold_reads functions (word, (name, (number, side))) ts =
    judged_then (function_offences functions name.token) (label_offences (function_named functions name.token) number.token)
    (id_named functions name.token) _ ts _
    (judged_last (label_offences (function_named functions name.token) number.token) (label_of (function_named functions name.token) number.token) _ ts _
    (rw (edge_reads side ts, edge_passed side ts) refl))

warm_reads : (functions : List Function) (t : Tree warm_setup) (ts : List Lexeme) → warm_at functions (behind (leaves warm_setup t ++ ts))
    ≡ reads (warm_offences functions t) (warm_of functions t) ts
unfolding warm_setup warm_at warm_offences warm_of front behind
warm_reads functions (word, (name, level)) ts =
    judged_then (function_offences functions name.token) (out_of_range (pos 1) (pos 3) level.token) (id_named functions name.token) _ ts _
    (judged_last (out_of_range (pos 1) (pos 3) level.token) (unsigned_abs level.token.number) _ ts _ refl)

guess_next : (t : Tree guess_setup) (ts : List Lexeme) → is_terminal terminal.Guess (front (leaves guess_setup t ++ ts)) ≡ true
unfolding guess_setup front
guess_next t ts = t.0.is

cold_next : (t : Tree cold_setup) (ts : List Lexeme) → is_terminal terminal.Cold (front (leaves cold_setup t ++ ts)) ≡ true
unfolding cold_setup front
cold_next t ts = t.0.is

warm_next : (t : Tree warm_setup) (ts : List Lexeme) → is_terminal terminal.Warm (front (leaves warm_setup t ++ ts)) ≡ true
unfolding warm_setup front
warm_next t ts = t.0.is

setup_reads : (functions : List Function) (earlier : List Setup) (t : Tree setup) (ts : List Lexeme) →
    (is_setup (leaves setup t ++ ts) ≡ true)
    × (next_setup functions earlier (leaves setup t ++ ts) ≡ reads (setup_offences functions t) (setup_of functions t) ts)
unfolding setup setup_at setup_offences setup_of
setup_reads functions earlier (inl t) ts =
    (rw (guess_next t ts) refl, rw (guess_next t ts) (guess_reads functions t ts))
setup_reads functions earlier (inr (inl t)) ts =
    let no_guess : is_terminal terminal.Guess (front (leaves cold_setup t ++ ts))
    ≡ false = other_terminal terminal.Cold terminal.Guess (front (leaves cold_setup t ++ ts)) (cold_next t ts) refl in
    (rw (no_guess, cold_next t ts) refl, rw (no_guess, cold_next t ts) (cold_reads functions t ts))
setup_reads functions earlier (inr (inr t)) ts =
    let no_guess : is_terminal terminal.Guess (front (leaves warm_setup t ++ ts))
    ≡ false = other_terminal terminal.Warm terminal.Guess (front (leaves warm_setup t ++ ts)) (warm_next t ts) refl in
    let no_cold : is_terminal terminal.Cold (front (leaves warm_setup t ++ ts))
    ≡ false = other_terminal terminal.Warm terminal.Cold (front (leaves warm_setup t ++ ts)) (warm_next t ts) refl in
    (rw (no_guess, no_cold, warm_next t ts) refl, rw (no_guess, no_cold) (warm_reads functions t ts))

pub setups_read : (functions : List Function) (t : Tree setups) (ts : List Lexeme) → is_setup ts ≡ false →
    setups_at functions [] (leaves setups t ++ ts) ≡ reads (setups_offences functions t) (setups_of functions t) ts
unfolding setups setups_at setups_offences setups_of front
setups_read functions t ts h =
    all_reads is_setup (next_setup functions) refl (setup_shorter functions) (leaves setup) (λ earlier line. setup_offences functions line)
    (setup_of functions) [] t ts (setup_reads functions) h
