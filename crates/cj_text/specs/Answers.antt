-- What a text is read as.
use Rattle.std.specs.Prelude.{ℕ, List, Result, Err, ⊤}
use Rattle.cj_ir.specs.declared.script.Input.{Input}
use Rattle.cj_tokens.specs.declared.refusal.Refused as refusal
use Rattle.cj_tokens.specs.declared.refusal.ParseError.{ParseError}
use Rattle.cj_tokens.specs.declared.refusal.ParseError.TheVariants.{Refused, NoMemory}
use Rattle.cj_grammar.specs.Sentences.{IsAnswer}
use Rattle.cj_text.specs.Reads.{Reads}

-- why it is not read: its first offence; want of memory may come at any time
abbrev pub IsParseError : List ℕ → ParseError → Type 0
IsParseError bytes (Refused r) = Reads bytes (Err r)
IsParseError bytes NoMemory = ⊤

-- the bytes are nothing else
abbrev pub IsOnlyReading : List ℕ → Result Input ParseError → Type 0
IsOnlyReading bytes result = (answer : Result Input refusal.Refused) → Reads bytes answer → IsAnswer answer result
