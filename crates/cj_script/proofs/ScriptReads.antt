-- What is read of the tokens of a script is its meaning, or the first offence of its tokens.
use Rattle.std.proofs.Common.{◌≡◌, true, false, List, [], ◌∷◌, ◌++◌, refl, append_assoc}
use Rattle.std.specs.Prelude.{nat_eq, flat_map}
use Rattle.cj_ir.specs.declared.language.Function.{Function}
use Rattle.cj_ir.specs.declared.language.Program.{Program}
use Rattle.cj_tokens.specs.Lexemes.{Lexeme, is_terminal, number_of}
use Rattle.cj_tokens.specs.Passing.{front, behind}
use Rattle.cj_tokens.specs.declared.terminal.Terminal.{Terminal}
use Rattle.cj_tokens.specs.declared.terminal.Terminal.TheVariants as terminal
use Rattle.cj_grammar.specs.Grammar.{Tree, leaves}
use Rattle.cj_grammar.specs.Readers.{reads}
use Rattle.cj_grammar.specs.Rules.{script_call, setups, script_calls, script}
use Rattle.cj_grammar.proofs.ReadsLaws.{reads_then, reads_last}
use Rattle.cj_script.specs.Meaning.{setups_offences, setups_of, calls_offences, calls_of, script_offences, script_of}
use Rattle.cj_script.specs.Reading.{is_setup, is_call, script_at}
use Rattle.cj_script.proofs.BegunReads.{other_terminal}
use Rattle.cj_script.proofs.CallsReads.{calls_reads}
use Rattle.cj_script.proofs.SetupsReads.{setups_read}

no_setup : (k : Terminal) (ts : List Lexeme) → is_terminal k (front ts) ≡ true → nat_eq (number_of k) (number_of terminal.Guess) ≡ false →
    nat_eq (number_of k) (number_of terminal.Cold) ≡ false → nat_eq (number_of k) (number_of terminal.Warm) ≡ false → is_setup ts ≡ false
no_setup k ts h guess cold warm =
    let no_guess : is_terminal terminal.Guess (front ts) ≡ false = other_terminal k terminal.Guess (front ts) h guess in
    let no_cold : is_terminal terminal.Cold (front ts) ≡ false = other_terminal k terminal.Cold (front ts) h cold in
    let no_warm : is_terminal terminal.Warm (front ts) ≡ false = other_terminal k terminal.Warm (front ts) h warm in
    rw (no_guess, no_cold, no_warm) refl

-- calls or the end stand behind the setups
after_setups : (calls : List (Tree script_call)) (last : Lexeme) (ts : List Lexeme) → is_terminal terminal.End last ≡ true →
    is_setup (flat_map (leaves script_call) calls ++ last ∷ ts) ≡ false
unfolding script_call front
after_setups [] last ts h = no_setup terminal.End (last ∷ ts) h refl refl refl
after_setups (call ∷ calls) last ts h =
    no_setup terminal.Call (flat_map (leaves script_call) (call ∷ calls) ++ last ∷ ts) call.0.is refl refl refl

pub script_reads : (p : Program) (t : Tree script) (last : Lexeme) (ts : List Lexeme) → is_terminal terminal.End last ≡ true →
    script_at p.functions (leaves script t ++ last ∷ ts) ≡ reads (script_offences p t) (script_of p t) (last ∷ ts)
unfolding script script_calls script_at script_offences script_of front behind
script_reads p (word, (lines, calls)) last ts h =
    let us : List Lexeme = leaves script_calls calls ++ last ∷ ts in
    let regroup : (leaves setups lines ++ leaves script_calls calls) ++ last ∷ ts ≡ leaves setups lines
    ++ us = append_assoc (leaves setups lines) (leaves script_calls calls) (last ∷ ts) in
    let no_more : is_call (last ∷ ts) ≡ false = other_terminal terminal.End terminal.Call last h refl in
    rw (regroup, setups_read p.functions lines us (after_setups calls last ts h))
    (reads_then (setups_offences p.functions lines) (calls_offences p.functions calls) (setups_of p.functions lines) _ us (last ∷ ts) _
    (rw (calls_reads p.functions calls (last ∷ ts) no_more)
    (reads_last (calls_offences p.functions calls) (calls_of p.functions calls) _ (last ∷ ts) (last ∷ ts) _ refl)))

pub script_known : (p : Program) (functions : List Function) (old : List Lexeme) (t : Tree script) (last : Lexeme) (ts : List Lexeme) →
    functions ≡ p.functions → old ≡ leaves script t ++ last ∷ ts → is_terminal terminal.End last ≡ true →
    script_at functions old ≡ reads (script_offences p t) (script_of p t) (last ∷ ts)
script_known p functions old t last ts f h e = rw (f, h) (script_reads p t last ts e)
