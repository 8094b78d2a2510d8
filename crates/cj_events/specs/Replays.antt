-- What the bytes of a text are: a replay, or refused with their first offence.
use Rattle.std.specs.Prelude.{ℕ, List, ◌++◌, Result, Err, ⊤}
use Rattle.cj_ir.specs.declared.language.Program.{Program}
use Rattle.cj_tokens.specs.Scan.{lexemes_of}
use Rattle.cj_tokens.specs.declared.refusal.Refused as refusal
use Rattle.cj_tokens.specs.declared.refusal.ParseError.{ParseError}
use Rattle.cj_tokens.specs.declared.refusal.ParseError.TheVariants.{Refused, NoMemory}
use Rattle.cj_grammar.specs.Grammar.{Tree}
use Rattle.cj_reader.specs.Meaning.{program_offences, program_of}
use Rattle.cj_events.specs.declared.events.Event.{Event}
use Rattle.cj_events.specs.Meaning.{history_offences, history_of}
use Rattle.cj_grammar.specs.Sentences.{Reads, IsAnswer}
use Rattle.cj_events.specs.Rules.{replay}

-- a program and its events
abbrev pub Replay : Type 0
Replay = Program × List Event

-- the offences of the second class, from the left: those of the functions, and then those of the events
unfoldable pub replay_offences : Tree replay → List refusal.Refused
unfolding replay
replay_offences (functions, (happened, last)) =
    program_offences functions ++ history_offences (program_of functions) happened

unfoldable pub replay_of : Tree replay → Replay
unfolding replay
replay_of (functions, (happened, last)) = (program_of functions, history_of (program_of functions) happened)

-- the bytes are this replay, or are refused with this offence
abbrev pub ReadsReplay : List ℕ → Result Replay refusal.Refused → Type 0
ReadsReplay bytes answer = Reads replay replay_offences replay_of (lexemes_of bytes) answer

-- why they are not read: their first offence; want of memory may come at any time
abbrev pub IsReplayError : List ℕ → ParseError → Type 0
IsReplayError bytes (Refused first) = ReadsReplay bytes (Err first)
IsReplayError bytes NoMemory = ⊤

-- they are nothing else
abbrev pub IsOnlyReplay : List ℕ → Result Replay ParseError → Type 0
IsOnlyReplay bytes result = (answer : Result Replay refusal.Refused) → ReadsReplay bytes answer → IsAnswer answer result
