-- What the events of a replay mean behind its program, and the offences of their tokens from the left. A token's own
-- offences stand in the order of their table, and the highest of them counts. What a token's offences need of the
-- events before it is taken from what those mean: where one of them means nothing, an offence stands there already.
use Rattle.std.specs.Prelude.{ℕ, pos, List, [], ◌∷◌, ◌++◌, length, map, nat_le, unsigned_abs}
use Rattle.std.proofs.Common.{inl, inr}
use Rattle.cj_ir.specs.declared.language.Function.{Function}
use Rattle.cj_ir.specs.declared.language.Guard.{Guard}
use Rattle.cj_ir.specs.declared.language.Guard.TheVariants.{Is, Never}
use Rattle.cj_ir.specs.declared.language.Label.{Label}
use Rattle.cj_ir.specs.declared.language.Program.{Program}
use Rattle.cj_ir.specs.declared.language.Reg.{Reg}
use Rattle.cj_draft.specs.declared.passes.Pass.{Pass}
use Rattle.cj_draft.specs.declared.passes.Pass.TheVariants.{Anchors, Assume, Delay, Const, Inline}
use Rattle.cj_tokens.specs.Lexemes.{Lexeme}
use Rattle.cj_tokens.specs.declared.refusal.Kind.TheVariants.{TooMany}
use Rattle.cj_tokens.specs.declared.refusal.Refused.{Refused}
use Rattle.cj_grammar.specs.Grammar.{Tree}
use Rattle.cj_grammar.specs.Reading.{offends_if, highest, each_offends}
use Rattle.cj_script.specs.Meaning.{out_of_range, limit_offences, function_offences, id_named, begun_offences, begun_of}
use Rattle.cj_grammar.specs.Rules.{numbers}
use Rattle.cj_events.specs.declared.events.Event.{Event}
use Rattle.cj_events.specs.declared.events.Event.TheVariants.{Begin, Step, Compile}
use Rattle.cj_events.specs.Rules.{labels, equation, guard, more_guards, guards, anchors_pass, assume_pass, delay_pass, const_pass, inline_pass, any_pass}
use Rattle.cj_events.specs.Rules.{passes, begin_event, step_event, compile_event, event, events, history}
use Rattle.cj_events.specs.Tallies.{runs, limits, counts, compiles}
use Rattle.cj_events.specs.declared.limits.TheConstants.{MAX_EVENTS, MAX_LISTED, MAX_PASSES}

-- ---- labels of drafts

abbrev pub label_of : Lexeme → Label
label_of t = record { 0 = unsigned_abs t.number }

abbrev pub label_offences : Lexeme → List Refused
label_offences t = out_of_range (pos 0) (pos 511) t

-- a label of a list, behind so many others
abbrev pub listed_offences : ℕ → Lexeme → List Refused
listed_offences earlier t = highest (offends_if (nat_le MAX_LISTED earlier) t TooMany ++ label_offences t)

unfoldable pub labels_offences : Tree labels → List Refused
unfolding labels numbers
labels_offences (first, more) =
    each_offends (λ earlier t. listed_offences (length earlier) t.token) (λ t. label_of t.token) [] (first ∷ more)

unfoldable pub labels_of : Tree labels → List Label
unfolding labels numbers
labels_of (first, more) = map (λ t. label_of t.token) (first ∷ more)

-- ---- guards

abbrev pub register_of : Lexeme → Reg
register_of t = record { 0 = unsigned_abs t.number }

-- the first token of a guard behind so many others: at most 8
abbrev pub ninth_offences : ℕ → Lexeme → List Refused
ninth_offences earlier t = offends_if (nat_le 8 earlier) t TooMany

abbrev pub register_offences : ℕ → Lexeme → List Refused
register_offences earlier t = highest (ninth_offences earlier t ++ out_of_range (pos 0) (pos 127) t)

unfoldable pub guard_offences : ℕ → Tree guard → List Refused
unfolding guard equation
guard_offences earlier (inl (register, (sign, value))) = register_offences earlier register.token
guard_offences earlier (inr never) = ninth_offences earlier never.token

unfoldable pub guard_of : Tree guard → Guard
unfolding guard equation
guard_of (inl (register, (sign, value))) = Is (register_of register.token) value.token.number
guard_of (inr never) = Never

unfoldable pub guards_offences : Tree guards → List Refused
unfolding guards more_guards
guards_offences (when, (first, more)) =
    guard_offences 0 first
    ++ each_offends
    (λ earlier next. guard_offences (length earlier) next.1)
    (λ next. guard_of next.1)
    (guard_of first ∷ [])
    more

unfoldable pub guards_of : Tree guards → List Guard
unfolding guards more_guards
guards_of (when, (first, more)) = guard_of first ∷ map (λ next. guard_of next.1) more

-- ---- passes

-- the first word of a pass behind so many others
abbrev pub pass_word_offences : ℕ → Lexeme → List Refused
pass_word_offences earlier word = offends_if (nat_le MAX_PASSES earlier) word TooMany

unfoldable pub anchors_offences : ℕ → Tree anchors_pass → List Refused
unfolding anchors_pass
anchors_offences earlier (word, places) = pass_word_offences earlier word.token ++ labels_offences places

unfoldable pub anchors_of : Tree anchors_pass → Pass
unfolding anchors_pass
anchors_of (word, places) = Anchors (labels_of places)

unfoldable pub assume_offences : ℕ → Tree assume_pass → List Refused
unfolding assume_pass
assume_offences earlier (word, (anchor, tests)) =
    pass_word_offences earlier word.token ++ (label_offences anchor.token ++ guards_offences tests)

unfoldable pub assume_of : Tree assume_pass → Pass
unfolding assume_pass
assume_of (word, (anchor, tests)) = Assume (label_of anchor.token) (guards_of tests)

unfoldable pub delay_offences : ℕ → Tree delay_pass → List Refused
unfolding delay_pass
delay_offences earlier (word, (path, tests)) =
    pass_word_offences earlier word.token ++ (labels_offences path ++ guards_offences tests)

unfoldable pub delay_of : Tree delay_pass → Pass
unfolding delay_pass
delay_of (word, (path, tests)) = Delay (labels_of path) (guards_of tests)

unfoldable pub const_offences : ℕ → Tree const_pass → List Refused
unfolding const_pass
const_offences earlier word = pass_word_offences earlier word.token

unfoldable pub const_of : Tree const_pass → Pass
unfolding const_pass
const_of word = Const

unfoldable pub inline_offences : ℕ → Tree inline_pass → List Refused
unfolding inline_pass
inline_offences earlier (word, call) = pass_word_offences earlier word.token ++ label_offences call.token

unfoldable pub inline_of : Tree inline_pass → Pass
unfolding inline_pass
inline_of (word, call) = Inline (label_of call.token)

-- a pass behind so many others
unfoldable pub pass_offences : ℕ → Tree any_pass → List Refused
unfolding any_pass
pass_offences earlier (inl anchors) = anchors_offences earlier anchors
pass_offences earlier (inr (inl assume)) = assume_offences earlier assume
pass_offences earlier (inr (inr (inl delay))) = delay_offences earlier delay
pass_offences earlier (inr (inr (inr (inl constants)))) = const_offences earlier constants
pass_offences earlier (inr (inr (inr (inr inline)))) = inline_offences earlier inline

unfoldable pub pass_of : Tree any_pass → Pass
unfolding any_pass
pass_of (inl anchors) = anchors_of anchors
pass_of (inr (inl assume)) = assume_of assume
pass_of (inr (inr (inl delay))) = delay_of delay
pass_of (inr (inr (inr (inl constants)))) = const_of constants
pass_of (inr (inr (inr (inr inline)))) = inline_of inline

unfoldable pub passes_offences : Tree passes → List Refused
unfolding passes
passes_offences items = each_offends (λ earlier item. pass_offences (length earlier) item) pass_of [] items

unfoldable pub passes_of : Tree passes → List Pass
unfolding passes
passes_of items = map pass_of items

-- ---- events

-- the first word of one of the events that are counted, behind so many of its kind
abbrev pub event_word_offences : ℕ → Lexeme → List Refused
event_word_offences earlier word = offends_if (nat_le MAX_EVENTS earlier) word TooMany

-- the number of a run that has begun
abbrev pub run_offences : ℕ → Lexeme → List Refused
run_offences begun run = out_of_range (pos 1) (pos begun) run

-- a step count, from 1 to 1,000,000; all of them together, like all limits, are at most 4,000,000
abbrev pub count_offences : ℕ → Lexeme → List Refused
count_offences spent count = limit_offences (pos spent) count

unfoldable pub begin_offences : List Function → List Event → Tree begin_event → List Refused
unfolding begin_event
begin_offences functions earlier (word, call) =
    event_word_offences (runs earlier) word.token ++ begun_offences functions (pos (limits earlier)) call

unfoldable pub begin_of : List Function → Tree begin_event → Event
unfolding begin_event
begin_of functions (word, call) = Begin (begun_of functions call)

unfoldable pub step_offences : List Event → Tree step_event → List Refused
unfolding step_event
step_offences earlier (word, (run, count)) =
    run_offences (runs earlier) run.token ++ count_offences (counts earlier) count.token

unfoldable pub step_of : Tree step_event → Event
unfolding step_event
step_of (word, (run, count)) = Step (unsigned_abs run.token.number) (unsigned_abs count.token.number)

unfoldable pub compile_offences : List Function → List Event → Tree compile_event → List Refused
unfolding compile_event
compile_offences functions earlier (word, (name, (open_brace, (items, close_brace)))) =
    event_word_offences (compiles earlier) word.token
    ++ (function_offences functions name.token ++ passes_offences items)

unfoldable pub compile_of : List Function → Tree compile_event → Event
unfolding compile_event
compile_of functions (word, (name, (open_brace, (items, close_brace)))) =
    Compile (id_named functions name.token) (passes_of items)

-- an event behind earlier ones
unfoldable pub event_offences : List Function → List Event → Tree event → List Refused
unfolding event
event_offences functions earlier (inl begin) = begin_offences functions earlier begin
event_offences functions earlier (inr (inl step)) = step_offences earlier step
event_offences functions earlier (inr (inr compile)) = compile_offences functions earlier compile

unfoldable pub event_of : List Function → Tree event → Event
unfolding event
event_of functions (inl begin) = begin_of functions begin
event_of functions (inr (inl step)) = step_of step
event_of functions (inr (inr compile)) = compile_of functions compile

unfoldable pub events_offences : List Function → Tree events → List Refused
unfolding events
events_offences functions items = each_offends (event_offences functions) (event_of functions) [] items

unfoldable pub events_of : List Function → Tree events → List Event
unfolding events
events_of functions items = map (event_of functions) items

-- behind the word `events`
unfoldable pub history_offences : Program → Tree history → List Refused
unfolding history
history_offences p (word, items) = events_offences p.functions items

unfoldable pub history_of : Program → Tree history → List Event
unfolding history
history_of p (word, items) = events_of p.functions items
