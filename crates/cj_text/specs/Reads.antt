-- What the bytes of a text are: an input, or refused with their first offence.
use Rattle.std.specs.Prelude.{ℕ, List, ◌++◌, Result}
use Rattle.cj_ir.specs.declared.script.Input.{Input}
use Rattle.cj_tokens.specs.Scan.{lexemes_of}
use Rattle.cj_tokens.specs.declared.refusal.Refused.{Refused}
use Rattle.cj_grammar.specs.Grammar.{Tree}
use Rattle.cj_grammar.specs.Rules.{input}
use Rattle.cj_grammar.specs.Sentences as sentence
use Rattle.cj_reader.specs.Meaning.{program_offences, program_of}
use Rattle.cj_script.specs.Meaning.{script_offences, script_of}

-- the offences of the second class, from the left: those of the functions, and then those of the script
unfoldable pub input_offences : Tree input → List Refused
unfolding input
input_offences (functions, (lines, last)) =
    program_offences functions ++ script_offences (program_of functions) lines

unfoldable pub input_of : Tree input → Input
unfolding input
input_of (functions, (lines, last)) =
    record { checked = program_of functions; script = script_of (program_of functions) lines }

-- the bytes are this input
abbrev pub Spells : List ℕ → Input → Type 0
Spells bytes value = sentence.Spells input input_offences input_of (lexemes_of bytes) value

-- the bytes are this input, or are refused with this offence
abbrev pub Reads : List ℕ → Result Input Refused → Type 0
Reads bytes answer = sentence.Reads input input_offences input_of (lexemes_of bytes) answer
