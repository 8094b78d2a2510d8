-- From the readers of functions and events to replays.
use Rattle.std.proofs.Common.{◌≡◌, refl, ℕ, false, List, [], ◌++◌, Result, Ok, Err}
use Rattle.cj_ir.specs.declared.language.Program.{Program}
use Rattle.cj_tokens.specs.Lexemes.{Lexeme, Is, is_terminal}
use Rattle.cj_tokens.specs.Passing.{front}
use Rattle.cj_tokens.specs.Scan.{lexemes_of}
use Rattle.cj_tokens.specs.declared.terminal.Terminal.TheVariants.{Fun, Events}
use Rattle.cj_tokens.specs.declared.refusal.Refused as refusal
use Rattle.cj_tokens.specs.declared.refusal.ParseError.{ParseError}
use Rattle.cj_tokens.specs.declared.refusal.ParseError.TheVariants.{Refused, NoMemory}
use Rattle.cj_grammar.specs.Grammar.{Tree, leaves, IsSentence}
use Rattle.cj_grammar.specs.Offences.{IsFirstOffence}
use Rattle.cj_grammar.specs.Sentences.{Agrees}
use Rattle.cj_grammar.specs.Shapes.{HasFunctions}
use Rattle.cj_grammar.proofs.Signs.{fits_apart}
use Rattle.cj_grammar.proofs.SentenceLaws as laws
use Rattle.cj_grammar.proofs.SentenceLaws.{GivesFirst, GivesSecond}
use Rattle.cj_reader.specs.Meaning.{program_offences, program_of}
use Rattle.cj_events.specs.declared.events.Event.{Event}
use Rattle.cj_events.specs.Fitting.{FitsEvents}
use Rattle.cj_events.specs.Meaning.{history_offences, history_of}
use Rattle.cj_events.specs.Replays.{Replay, replay_offences, replay_of, ReadsReplay, IsReplayError, IsOnlyReplay}
use Rattle.cj_events.specs.Rules.{history, replay}
use Rattle.cj_events.proofs.FineEvents.{history_fits}

-- events begin with no function
no_function : (t : Tree history) (ts : List Lexeme) → is_terminal Fun (front (leaves history t ++ ts)) ≡ false
unfolding history front
no_function (word, rest) ts = fits_apart (Is Events) (Is Fun) word.token refl word.is

abbrev replay_with : Program → List Event → Replay
replay_with p happened = (p, happened)

pub has_functions : (ts : List Lexeme) → IsSentence replay ts → HasFunctions ts
unfolding replay
has_functions ts sentence = laws.has_functions program_offences program_of history history_offences history_of replay_with no_function ts sentence

-- ---- what came of the two readers

-- the functions were refused
pub functions_fail : (ts : List Lexeme) (e : ParseError) → GivesFirst program_offences program_of ts (Err e) [] → (t : Tree replay) → leaves replay t ≡ ts →
    Agrees {X = Replay} (Err e) (replay_offences t) (replay_of t)
unfolding replay replay_offences replay_of
functions_fail ts e gives (functions, (happened, last)) is = laws.first_fails program_offences program_of history history_offences history_of replay_with
    no_function ts e gives (functions, (happened, last)) is

-- the functions were read, and then the events were refused
pub events_fail : (ts us : List Lexeme) (p : Program) (e : ParseError) → GivesFirst program_offences program_of ts (Ok p) us →
    GivesSecond history (history_offences p) (history_of p) us (Err e) [] → (t : Tree replay) → leaves replay t ≡ ts →
    Agrees {X = Replay} (Err e) (replay_offences t) (replay_of t)
unfolding replay replay_offences replay_of
events_fail ts us p e gives then (functions, (happened, last)) is = laws.second_fails program_offences program_of history history_offences history_of
    replay_with no_function ts us p e gives then (functions, (happened, last)) is

-- both were read
pub both_read : (ts us left : List Lexeme) (p : Program) (happened : List Event) → GivesFirst program_offences program_of ts (Ok p) us →
    GivesSecond history (history_offences p) (history_of p) us (Ok happened) left → (t : Tree replay) → leaves replay t ≡ ts →
    Agrees (Ok (replay_with p happened)) (replay_offences t) (replay_of t)
unfolding replay replay_offences replay_of
both_read ts us left p given gives then (functions, (happened, last)) is = laws.both_read program_offences program_of history history_offences history_of
    replay_with no_function ts us left p given gives then (functions, (happened, last)) is

-- and what was read fits
pub both_fit : (ts us left : List Lexeme) (p : Program) (happened : List Event) → GivesFirst program_offences program_of ts (Ok p) us →
    GivesSecond history (history_offences p) (history_of p) us (Ok happened) left → IsSentence replay ts → FitsEvents p happened
unfolding replay
both_fit ts us left p given gives then ((functions, (happened, last)), is) =
    let read = laws.first_read program_offences program_of history history_offences history_of replay_with no_function ts us p gives
    (functions, (happened, last)) is in
    let second = laws.reads_ok (history_offences p happened) (history_of p happened) given _ left (then happened last.token [] read.rest last.is) in
    rw second.value (history_fits p happened second.fine)

-- ---- from trees to replays

abbrev pub AgreesWithTrees : List ℕ → Result Replay ParseError → Type 0
AgreesWithTrees bytes result = (t : Tree replay) → leaves replay t ≡ lexemes_of bytes → Agrees result (replay_offences t) (replay_of t)

pub replay_meant : (bytes : List ℕ) (x : Replay) → IsSentence replay (lexemes_of bytes) → AgreesWithTrees bytes (Ok x) → ReadsReplay bytes (Ok x)
replay_meant bytes x sentence agrees = laws.meant replay replay_offences replay_of (lexemes_of bytes) x sentence agrees

pub replay_offended : (bytes : List ℕ) (e : ParseError) → IsSentence replay (lexemes_of bytes) → AgreesWithTrees bytes (Err e) → IsReplayError bytes e
replay_offended bytes NoMemory sentence agrees = tt
replay_offended bytes (Refused first) sentence agrees = laws.offended replay replay_offences replay_of (lexemes_of bytes) first sentence agrees

pub replay_only : (bytes : List ℕ) (result : Result Replay ParseError) → IsSentence replay (lexemes_of bytes) → AgreesWithTrees bytes result →
    IsOnlyReplay bytes result
replay_only bytes result sentence agrees = laws.only_meant replay replay_offences replay_of (lexemes_of bytes) result sentence agrees

pub replay_first : (bytes : List ℕ) (first : refusal.Refused) → IsFirstOffence replay (lexemes_of bytes) first → IsOnlyReplay bytes (Err (Refused first))
replay_first bytes first found = laws.only_first replay replay_offences replay_of (lexemes_of bytes) first found
