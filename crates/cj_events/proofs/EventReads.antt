-- What is read of the tokens of events is their meaning, or the first offence of their tokens.
use Rattle.std.proofs.Common.{◌≡◌, pos, true, false, List, [], ◌∷◌, ◌++◌, refl, inl, inr, append_assoc}
use Rattle.std.specs.Prelude.{nat_le, unsigned_abs}
use Rattle.cj_ir.specs.declared.language.Function.{Function}
use Rattle.cj_ir.specs.declared.language.Program.{Program}
use Rattle.cj_tokens.specs.Lexemes.{Lexeme, is_terminal}
use Rattle.cj_tokens.specs.Passing.{front, behind}
use Rattle.cj_tokens.specs.declared.refusal.Kind.TheVariants.{TooMany}
use Rattle.cj_tokens.specs.declared.terminal.Terminal.TheVariants as terminal
use Rattle.cj_grammar.specs.Grammar.{Tree, leaves}
use Rattle.cj_grammar.specs.Readers.{reads}
use Rattle.cj_grammar.proofs.ReadsLaws.{reads_last}
use Rattle.cj_script.specs.Meaning.{function_offences, id_named, begun_offences, begun_of}
use Rattle.cj_script.proofs.BegunReads.{judged_then, judged_last, other_terminal, begun_reads}
use Rattle.cj_script.proofs.Turns.{all_reads}
use Rattle.cj_script.proofs.CallsReads.{refuse_or}
use Rattle.cj_events.specs.declared.events.Event.{Event}
use Rattle.cj_events.specs.declared.events.Event.TheVariants.{Begin, Compile}
use Rattle.cj_events.specs.Meaning.{run_offences, count_offences, passes_offences, passes_of, begin_offences, begin_of, step_offences, step_of}
use Rattle.cj_events.specs.Meaning.{compile_offences, compile_of, event_offences, event_of, events_offences, events_of, history_offences, history_of}
use Rattle.cj_events.specs.Reading.{is_pass, begin_at, step_at, compiled_at, compile_at, event_at, is_event, next_event, events_at, history_at}
use Rattle.cj_events.specs.Rules.{passes, begin_event, step_event, compile_event, event, events, history}
use Rattle.cj_events.specs.Tallies.{runs, limits, counts, compiles, tally_of}
use Rattle.cj_events.proofs.EventTurns.{next_shorter}
use Rattle.cj_events.proofs.PassReads.{EndsLists, passes_read}

begin_reads : (functions : List Function) (earlier : List Event) (t : Tree begin_event) (ts : List Lexeme) →
    begin_at functions (tally_of earlier) (leaves begin_event t ++ ts) ≡ reads (begin_offences functions earlier t) (begin_of functions t) ts
unfolding begin_event begin_at begin_offences begin_of tally_of front behind
begin_reads functions earlier (word, call) ts =
    refuse_or (nat_le 256 (runs earlier)) word.token TooMany (begun_offences functions (pos (limits earlier)) call) (Begin (begun_of functions call)) ts _
    (rw (begun_reads functions (limits earlier) call ts)
    (reads_last (begun_offences functions (pos (limits earlier)) call) (begun_of functions call) _ ts ts _ refl))

step_reads : (earlier : List Event) (t : Tree step_event) (ts : List Lexeme) → step_at (tally_of earlier) (leaves step_event t ++ ts)
    ≡ reads (step_offences earlier t) (step_of t) ts
unfolding step_event step_at step_offences step_of tally_of front behind
step_reads earlier (word, (run, count)) ts =
    judged_then (run_offences (runs earlier) run.token) (count_offences (counts earlier) count.token) (unsigned_abs run.token.number) _ ts _
    (judged_last (count_offences (counts earlier) count.token) (unsigned_abs count.token.number) _ ts _ refl)

-- behind the passes stands a brace
brace_ends : (t : Lexeme) (ts : List Lexeme) → is_terminal terminal.CloseBrace t ≡ true → EndsLists (t ∷ ts)
unfolding front
brace_ends t ts h = record {
  no_number = other_terminal terminal.CloseBrace terminal.Number t h refl;
  no_comma = other_terminal terminal.CloseBrace terminal.Comma t h refl;
}

no_pass : (t : Lexeme) (ts : List Lexeme) → is_terminal terminal.CloseBrace t ≡ true → is_pass (t ∷ ts) ≡ false
unfolding front
no_pass t ts h =
    let no_anchors : is_terminal terminal.Anchors t ≡ false = other_terminal terminal.CloseBrace terminal.Anchors t h refl in
    let no_assume : is_terminal terminal.Assume t ≡ false = other_terminal terminal.CloseBrace terminal.Assume t h refl in
    let no_delay : is_terminal terminal.Delay t ≡ false = other_terminal terminal.CloseBrace terminal.Delay t h refl in
    let no_const : is_terminal terminal.Const t ≡ false = other_terminal terminal.CloseBrace terminal.Const t h refl in
    let no_inline : is_terminal terminal.Inline t ≡ false = other_terminal terminal.CloseBrace terminal.Inline t h refl in
    rw (no_anchors, no_assume, no_delay, no_const, no_inline) refl

compile_reads : (functions : List Function) (earlier : List Event) (t : Tree compile_event) (ts : List Lexeme) →
    compile_at functions (tally_of earlier) (leaves compile_event t ++ ts) ≡ reads (compile_offences functions earlier t) (compile_of functions t) ts
unfolding compile_event compile_at compiled_at compile_offences compile_of tally_of front behind
compile_reads functions earlier (word, (name, (open_brace, (items, close_brace)))) ts =
    let us : List Lexeme = close_brace.token ∷ ts in
    let regroup : (leaves passes items ++ (close_brace.token ∷ [])) ++ ts ≡ leaves passes items
    ++ us = append_assoc (leaves passes items) (close_brace.token ∷ []) ts in
    refuse_or (nat_le 256 (compiles earlier)) word.token TooMany (function_offences functions name.token ++ passes_offences items)
    (Compile (id_named functions name.token) (passes_of items)) ts _
    (judged_then (function_offences functions name.token) (passes_offences items) (id_named functions name.token) _ ts _
    (rw (regroup, passes_read items us (brace_ends close_brace.token ts close_brace.is) (no_pass close_brace.token ts close_brace.is))
    (reads_last (passes_offences items) (passes_of items) _ us ts _ refl)))

begin_next : (t : Tree begin_event) (ts : List Lexeme) → is_terminal terminal.Begin (front (leaves begin_event t ++ ts)) ≡ true
unfolding begin_event front
begin_next t ts = t.0.is

step_next : (t : Tree step_event) (ts : List Lexeme) → is_terminal terminal.Step (front (leaves step_event t ++ ts)) ≡ true
unfolding step_event front
step_next t ts = t.0.is

compile_next : (t : Tree compile_event) (ts : List Lexeme) → is_terminal terminal.Compile (front (leaves compile_event t ++ ts)) ≡ true
unfolding compile_event front
compile_next t ts = t.0.is

event_reads : (functions : List Function) (earlier : List Event) (t : Tree event) (ts : List Lexeme) →
    (is_event (leaves event t ++ ts) ≡ true)
    × (next_event functions earlier (leaves event t ++ ts) ≡ reads (event_offences functions earlier t) (event_of functions t) ts)
unfolding event event_at event_offences event_of
event_reads functions earlier (inl t) ts =
    (rw (begin_next t ts) refl, rw (begin_next t ts) (begin_reads functions earlier t ts))
event_reads functions earlier (inr (inl t)) ts =
    let no_begin : is_terminal terminal.Begin (front (leaves step_event t ++ ts))
    ≡ false = other_terminal terminal.Step terminal.Begin (front (leaves step_event t ++ ts)) (step_next t ts) refl in
    (rw (no_begin, step_next t ts) refl, rw (no_begin, step_next t ts) (step_reads earlier t ts))
event_reads functions earlier (inr (inr t)) ts =
    let no_begin : is_terminal terminal.Begin (front (leaves compile_event t ++ ts))
    ≡ false = other_terminal terminal.Compile terminal.Begin (front (leaves compile_event t ++ ts)) (compile_next t ts) refl in
    let no_step : is_terminal terminal.Step (front (leaves compile_event t ++ ts))
    ≡ false = other_terminal terminal.Compile terminal.Step (front (leaves compile_event t ++ ts)) (compile_next t ts) refl in
    (rw (no_begin, no_step, compile_next t ts) refl, rw (no_begin, no_step) (compile_reads functions earlier t ts))

pub events_read : (functions : List Function) (t : Tree events) (ts : List Lexeme) → is_event ts ≡ false →
    events_at functions [] (leaves events t ++ ts) ≡ reads (events_offences functions t) (events_of functions t) ts
unfolding events events_at events_offences events_of front
events_read functions t ts h =
    all_reads is_event (next_event functions) refl (next_shorter functions) (leaves event) (event_offences functions) (event_of functions) [] t ts
    (event_reads functions) h

no_event : (t : Lexeme) (ts : List Lexeme) → is_terminal terminal.End t ≡ true → is_event (t ∷ ts) ≡ false
unfolding front
no_event t ts h =
    let no_begin : is_terminal terminal.Begin t ≡ false = other_terminal terminal.End terminal.Begin t h refl in
    let no_step : is_terminal terminal.Step t ≡ false = other_terminal terminal.End terminal.Step t h refl in
    let no_compile : is_terminal terminal.Compile t ≡ false = other_terminal terminal.End terminal.Compile t h refl in
    rw (no_begin, no_step, no_compile) refl

history_reads : (p : Program) (t : Tree history) (last : Lexeme) (ts : List Lexeme) → is_terminal terminal.End last ≡ true →
    history_at p.functions (leaves history t ++ last ∷ ts) ≡ reads (history_offences p t) (history_of p t) (last ∷ ts)
unfolding history history_at history_offences history_of behind
history_reads p (word, items) last ts h = events_read p.functions items (last ∷ ts) (no_event last ts h)

pub history_known : (p : Program) (functions : List Function) (old : List Lexeme) (t : Tree history) (last : Lexeme) (ts : List Lexeme) →
    functions ≡ p.functions → old ≡ leaves history t ++ last ∷ ts → is_terminal terminal.End last ≡ true →
    history_at functions old ≡ reads (history_offences p t) (history_of p t) (last ∷ ts)
history_known p functions old t last ts f h e = rw (f, h) (history_reads p t last ts e)
