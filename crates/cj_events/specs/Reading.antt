-- What the tokens of events mean, read from the left. Their order is the grammar's.
use Rattle.std.specs.Prelude.{ℕ, Bool, cond, ◌||◌, List, [], ◌∷◌, length, Ok, Err, unsigned_abs, nat_le}
use Rattle.cj_ir.specs.declared.language.Function.{Function}
use Rattle.cj_ir.specs.declared.language.Guard.{Guard}
use Rattle.cj_ir.specs.declared.language.Guard.TheVariants.{Is, Never}
use Rattle.cj_ir.specs.declared.language.Label.{Label}
use Rattle.cj_draft.specs.declared.passes.Pass.{Pass}
use Rattle.cj_draft.specs.declared.passes.Pass.TheVariants as pass
use Rattle.cj_tokens.specs.Lexemes.{Lexeme, is_terminal}
use Rattle.cj_tokens.specs.Passing.{front, behind}
use Rattle.cj_tokens.specs.declared.refusal.Kind.TheVariants.{TooMany}
use Rattle.cj_tokens.specs.declared.terminal.Terminal.TheVariants as terminal
use Rattle.cj_grammar.specs.OneAhead.{◌>>=◌}
use Rattle.cj_grammar.specs.Reading.{offence}
use Rattle.cj_grammar.specs.Readers.{Read}
use Rattle.cj_script.specs.Meaning.{function_offences, id_named}
use Rattle.cj_script.specs.Reading.{judged, all_at, begun_at}
use Rattle.cj_events.specs.declared.events.Event.{Event}
use Rattle.cj_events.specs.declared.events.Event.TheVariants.{Begin, Step, Compile}
use Rattle.cj_events.specs.declared.tally.Tally.{Tally}
use Rattle.cj_events.specs.Meaning.{label_of, label_offences, listed_offences, register_of, ninth_offences, register_offences, run_offences, count_offences}
use Rattle.cj_events.specs.Tallies.{tally_of}
use Rattle.cj_events.specs.declared.limits.TheConstants.{MAX_EVENTS, MAX_PASSES}

-- ---- labels

abbrev pub is_number : List Lexeme → Bool
is_number ts = is_terminal terminal.Number (front ts)

-- behind so many others
unfoldable pub label_at : ℕ → List Lexeme → Read Label
label_at earlier ts =
    judged (listed_offences earlier (front ts)) (label_of (front ts)) >>= λ label. Ok (label, behind ts)

abbrev pub next_label : List Label → List Lexeme → Read Label
next_label earlier ts = label_at (length earlier) ts

unfoldable pub labels_at : List Label → List Lexeme → Read (List Label)
labels_at earlier ts = all_at is_number next_label earlier ts

-- ---- guards, each with the word or mark before it

abbrev pub is_comma : List Lexeme → Bool
is_comma ts = is_terminal terminal.Comma (front ts)

unfoldable pub never_at : ℕ → List Lexeme → Read Guard
never_at earlier ts = judged (ninth_offences earlier (front ts)) Never >>= λ guard. Ok (guard, behind ts)

unfoldable pub equation_at : ℕ → List Lexeme → Read Guard
equation_at earlier ts =
    judged (register_offences earlier (front ts)) (register_of (front ts))
    >>= λ register. Ok (Is register (front (behind (behind ts))).number, behind (behind (behind ts)))

unfoldable pub guard_at : ℕ → List Lexeme → Read Guard
guard_at earlier ts =
    cond
    (is_terminal terminal.Never (front (behind ts)))
    (never_at earlier (behind ts))
    (equation_at earlier (behind ts))

abbrev pub next_guard : List Guard → List Lexeme → Read Guard
next_guard earlier ts = guard_at (length earlier) ts

unfoldable pub more_guards_at : List Guard → List Lexeme → Read (List Guard)
more_guards_at earlier ts = all_at is_comma next_guard earlier ts

unfoldable pub guards_at : List Lexeme → Read (List Guard)
guards_at ts = guard_at 0 ts >>= λ first. more_guards_at (first.0 ∷ []) first.1

-- ---- passes

abbrev pub is_pass : List Lexeme → Bool
is_pass ts =
    is_terminal terminal.Anchors (front ts)
    || is_terminal terminal.Assume (front ts)
    || is_terminal terminal.Delay (front ts)
    || is_terminal terminal.Const (front ts)
    || is_terminal terminal.Inline (front ts)

-- behind their first words

unfoldable pub anchors_at : List Lexeme → Read Pass
anchors_at ts = labels_at [] ts >>= λ places. Ok (pass.Anchors places.0, places.1)

unfoldable pub assume_at : List Lexeme → Read Pass
assume_at ts =
    judged (label_offences (front ts)) (label_of (front ts))
    >>= λ anchor. guards_at (behind ts)
    >>= λ guards. Ok (pass.Assume anchor guards.0, guards.1)

unfoldable pub delay_at : List Lexeme → Read Pass
delay_at ts =
    labels_at [] ts >>= λ path. guards_at path.1 >>= λ guards. Ok (pass.Delay path.0 guards.0, guards.1)

unfoldable pub inline_at : List Lexeme → Read Pass
inline_at ts = judged (label_offences (front ts)) (label_of (front ts)) >>= λ call. Ok (pass.Inline call, behind ts)

-- with its first word
unfoldable pub any_pass_at : List Lexeme → Read Pass
any_pass_at ts =
    cond (is_terminal terminal.Anchors (front ts)) (anchors_at (behind ts))
    (cond (is_terminal terminal.Assume (front ts)) (assume_at (behind ts))
    (cond (is_terminal terminal.Delay (front ts)) (delay_at (behind ts))
    (cond (is_terminal terminal.Const (front ts)) (Ok (pass.Const, behind ts)) (inline_at (behind ts)))))

unfoldable pub pass_at : ℕ → List Lexeme → Read Pass
pass_at earlier ts = cond (nat_le MAX_PASSES earlier) (Err (offence (front ts) TooMany)) (any_pass_at ts)

abbrev pub next_pass : List Pass → List Lexeme → Read Pass
next_pass earlier ts = pass_at (length earlier) ts

unfoldable pub passes_at : List Pass → List Lexeme → Read (List Pass)
passes_at earlier ts = all_at is_pass next_pass earlier ts

-- ---- events

abbrev pub is_event : List Lexeme → Bool
is_event ts =
    is_terminal terminal.Begin (front ts)
    || is_terminal terminal.Step (front ts)
    || is_terminal terminal.Compile (front ts)

unfoldable pub begin_at : List Function → Tally → List Lexeme → Read Event
begin_at functions tally ts =
    cond
    (nat_le MAX_EVENTS tally.runs)
    (Err (offence (front ts) TooMany))
    (begun_at functions tally.limits (behind ts) >>= λ call. Ok (Begin call.0, call.1))

unfoldable pub step_at : Tally → List Lexeme → Read Event
step_at tally ts =
    judged (run_offences tally.runs (front (behind ts))) (unsigned_abs (front (behind ts)).number)
    >>= λ run.
    judged
    (count_offences tally.counts (front (behind (behind ts))))
    (unsigned_abs (front (behind (behind ts))).number)
    >>= λ count. Ok (Step run count, behind (behind (behind ts)))

-- the function and its passes in braces
unfoldable pub compiled_at : List Function → List Lexeme → Read Event
compiled_at functions ts =
    judged (function_offences functions (front ts)) (id_named functions (front ts))
    >>= λ function. passes_at [] (behind (behind ts))
    >>= λ passes. Ok (Compile function passes.0, behind passes.1)

unfoldable pub compile_at : List Function → Tally → List Lexeme → Read Event
compile_at functions tally ts =
    cond (nat_le MAX_EVENTS tally.compiles) (Err (offence (front ts) TooMany)) (compiled_at functions (behind ts))

unfoldable pub event_at : List Function → Tally → List Lexeme → Read Event
event_at functions tally ts =
    cond
    (is_terminal terminal.Begin (front ts))
    (begin_at functions tally ts)
    (cond (is_terminal terminal.Step (front ts)) (step_at tally ts) (compile_at functions tally ts))

abbrev pub next_event : List Function → List Event → List Lexeme → Read Event
next_event functions earlier ts = event_at functions (tally_of earlier) ts

unfoldable pub events_at : List Function → List Event → List Lexeme → Read (List Event)
events_at functions earlier ts = all_at is_event (next_event functions) earlier ts

-- behind the word `events`
unfoldable pub history_at : List Function → List Lexeme → Read (List Event)
history_at functions ts = events_at functions [] (behind ts)
