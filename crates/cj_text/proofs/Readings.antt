-- From the readers of functions and scripts to inputs.
use Rattle.std.proofs.Common.{◌≡◌, refl, ℕ, false, List, [], ◌++◌, Result, Ok, Err}
use Rattle.cj_ir.specs.declared.language.Program.{Program}
use Rattle.cj_ir.specs.declared.script.Input.{Input}
use Rattle.cj_ir.specs.declared.script.Script.{Script}
use Rattle.cj_tokens.specs.Lexemes.{Lexeme, Is, is_terminal}
use Rattle.cj_tokens.specs.Passing.{front}
use Rattle.cj_tokens.specs.Scan.{lexemes_of}
use Rattle.cj_tokens.specs.declared.terminal.Terminal.TheVariants.{Fun, Calls}
use Rattle.cj_tokens.specs.declared.refusal.Refused as refusal
use Rattle.cj_tokens.specs.declared.refusal.ParseError.{ParseError}
use Rattle.cj_tokens.specs.declared.refusal.ParseError.TheVariants.{Refused, NoMemory}
use Rattle.cj_grammar.specs.Grammar.{Tree, leaves, IsSentence}
use Rattle.cj_grammar.specs.Offences.{IsFirstOffence}
use Rattle.cj_grammar.specs.Rules.{script, input}
use Rattle.cj_grammar.specs.Sentences.{Agrees}
use Rattle.cj_grammar.specs.Shapes.{HasFunctions}
use Rattle.cj_grammar.proofs.Signs.{fits_apart}
use Rattle.cj_grammar.proofs.SentenceLaws as laws
use Rattle.cj_grammar.proofs.SentenceLaws.{GivesFirst, GivesSecond}
use Rattle.cj_reader.specs.Meaning.{program_offences, program_of}
use Rattle.cj_script.specs.Meaning.{script_offences, script_of}
use Rattle.cj_text.specs.Reads.{Reads, input_offences, input_of}
use Rattle.cj_text.specs.Answers.{IsParseError, IsOnlyReading}

-- a script begins with no function
pub no_function : (t : Tree script) (ts : List Lexeme) → is_terminal Fun (front (leaves script t ++ ts)) ≡ false
unfolding script front
no_function (word, rest) ts = fits_apart (Is Calls) (Is Fun) word.token refl word.is

abbrev input_with : Program → Script → Input
input_with p s = record { checked = p; script = s }

pub has_functions : (ts : List Lexeme) → IsSentence input ts → HasFunctions ts
unfolding input
has_functions ts sentence = laws.has_functions program_offences program_of script script_offences script_of input_with no_function ts sentence

-- ---- what came of the two readers

-- the functions were refused
pub functions_fail : (ts : List Lexeme) (e : ParseError) → GivesFirst program_offences program_of ts (Err e) [] → (t : Tree input) → leaves input t ≡ ts →
    Agrees {X = Input} (Err e) (input_offences t) (input_of t)
unfolding input input_offences input_of
functions_fail ts e gives (functions, (lines, last)) is = laws.first_fails program_offences program_of script script_offences script_of input_with no_function
    ts e gives (functions, (lines, last)) is

-- the functions were read, and then the script was refused
pub script_fails : (ts us : List Lexeme) (p : Program) (e : ParseError) → GivesFirst program_offences program_of ts (Ok p) us →
    GivesSecond script (script_offences p) (script_of p) us (Err e) [] → (t : Tree input) → leaves input t ≡ ts →
    Agrees {X = Input} (Err e) (input_offences t) (input_of t)
unfolding input input_offences input_of
script_fails ts us p e gives then (functions, (lines, last)) is = laws.second_fails program_offences program_of script script_offences script_of input_with
    no_function ts us p e gives then (functions, (lines, last)) is

-- both were read
pub both_read : (ts us left : List Lexeme) (p : Program) (s : Script) → GivesFirst program_offences program_of ts (Ok p) us →
    GivesSecond script (script_offences p) (script_of p) us (Ok s) left → (t : Tree input) → leaves input t ≡ ts →
    Agrees (Ok (input_with p s)) (input_offences t) (input_of t)
unfolding input input_offences input_of
both_read ts us left p s gives then (functions, (lines, last)) is = laws.both_read program_offences program_of script script_offences script_of input_with
    no_function ts us left p s gives then (functions, (lines, last)) is

-- ---- from trees to inputs

abbrev AgreesWithTrees : List ℕ → Result Input ParseError → Type 0
AgreesWithTrees bytes result = (t : Tree input) → leaves input t ≡ lexemes_of bytes → Agrees result (input_offences t) (input_of t)

pub meant : (bytes : List ℕ) (i : Input) → IsSentence input (lexemes_of bytes) → AgreesWithTrees bytes (Ok i) → Reads bytes (Ok i)
meant bytes i sentence agrees = laws.meant input input_offences input_of (lexemes_of bytes) i sentence agrees

pub offended : (bytes : List ℕ) (e : ParseError) → IsSentence input (lexemes_of bytes) → AgreesWithTrees bytes (Err e) → IsParseError bytes e
offended bytes NoMemory sentence agrees = tt
offended bytes (Refused r) sentence agrees = laws.offended input input_offences input_of (lexemes_of bytes) r sentence agrees

pub only_meant : (bytes : List ℕ) (result : Result Input ParseError) → IsSentence input (lexemes_of bytes) → AgreesWithTrees bytes result →
    IsOnlyReading bytes result
only_meant bytes result sentence agrees = laws.only_meant input input_offences input_of (lexemes_of bytes) result sentence agrees

pub only_first : (bytes : List ℕ) (r : refusal.Refused) → IsFirstOffence input (lexemes_of bytes) r → IsOnlyReading bytes (Err (Refused r))
only_first bytes r found = laws.only_first input input_offences input_of (lexemes_of bytes) r found
