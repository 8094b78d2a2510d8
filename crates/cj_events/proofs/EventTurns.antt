-- The reader of events, turn by turn.
use Rattle.std.proofs.Common.{◌≡◌, ◌<◌, ◌≤◌, true, false, List, [], ◌∷◌, ◌++◌, length, Ok, Err, refl, ap, sym, ◌∙◌, arith}
use Rattle.std.specs.Prelude.{nat_le, unsigned_abs}
use Rattle.cj_ir.specs.declared.language.Function.{Function}
use Rattle.cj_tokens.specs.Lexemes.{Lexeme, is_terminal}
use Rattle.cj_tokens.specs.Passing.{front, behind}
use Rattle.cj_tokens.specs.declared.refusal.Kind.TheVariants.{TooMany}
use Rattle.cj_tokens.specs.declared.refusal.Refused.{Refused}
use Rattle.cj_tokens.specs.declared.terminal.Terminal.TheVariants as terminal
use Rattle.cj_grammar.specs.Reading.{offence}
use Rattle.cj_script.specs.Meaning.{function_offences, id_named}
use Rattle.cj_script.specs.Reading.{begun_at}
use Rattle.cj_script.proofs.Turns.{behind_within, Within, ok_within, err_within, judged_within, then_within, cond_within, all_stops, all_fails, all_goes}
use Rattle.cj_script.proofs.CallTurns.{begun_within}
use Rattle.cj_events.specs.declared.events.Event.{Event}
use Rattle.cj_events.specs.declared.tally.Tally.{Tally}
use Rattle.cj_events.specs.Meaning.{run_offences, count_offences}
use Rattle.cj_events.specs.Reading.{passes_at, begin_at, step_at, compiled_at, compile_at, event_at, is_event, next_event, events_at}
use Rattle.cj_events.specs.Tallies.{tally_of}
use Rattle.cj_events.proofs.PassTurns.{passes_within}

begin_within : (functions : List Function) (tally : Tally) (ts : List Lexeme) → Within Event (length (behind ts)) (begin_at functions tally ts)
unfolding begin_at
begin_within functions tally ts =
    cond_within (nat_le 256 tally.runs) (length (behind ts)) _ _ (err_within Event (length (behind ts)) (offence (front ts) TooMany))
    (then_within (begun_at functions tally.limits (behind ts)) (length (behind ts)) (length (behind ts)) _ (begun_within functions tally.limits (behind ts))
    (λ call fewer. ok_within _ (length (behind ts)) call.1 fewer))

step_within : (tally : Tally) (ts : List Lexeme) → Within Event (length (behind ts)) (step_at tally ts)
unfolding step_at
step_within tally ts =
    let two : length (behind (behind ts)) ≤ length (behind ts) = behind_within (behind ts) in
    let three : length (behind (behind (behind ts))) ≤ length (behind (behind ts)) = behind_within (behind (behind ts)) in
    judged_within (run_offences tally.runs (front (behind ts))) (unsigned_abs (front (behind ts)).number) (length (behind ts)) _
    (judged_within (count_offences tally.counts (front (behind (behind ts)))) (unsigned_abs (front (behind (behind ts))).number) (length (behind ts)) _
    (ok_within _ (length (behind ts)) (behind (behind (behind ts))) (omega arith)))

compiled_within : (functions : List Function) (ts : List Lexeme) → Within Event (length ts) (compiled_at functions ts)
unfolding compiled_at
compiled_within functions ts =
    let one : length (behind ts) ≤ length ts = behind_within ts in
    let two : length (behind (behind ts)) ≤ length (behind ts) = behind_within (behind ts) in
    judged_within (function_offences functions (front ts)) (id_named functions (front ts)) (length ts) _
    (then_within (passes_at [] (behind (behind ts))) (length (behind (behind ts))) (length ts) _ (passes_within [] (behind (behind ts)))
    (λ passes fewer. let last : length (behind passes.1) ≤ length passes.1 = behind_within passes.1 in ok_within _ (length ts) (behind passes.1) (omega arith)))

compile_within : (functions : List Function) (tally : Tally) (ts : List Lexeme) → Within Event (length (behind ts)) (compile_at functions tally ts)
unfolding compile_at
compile_within functions tally ts =
    cond_within (nat_le 256 tally.compiles) (length (behind ts)) _ _ (err_within Event (length (behind ts)) (offence (front ts) TooMany))
    (compiled_within functions (behind ts))

event_within : (functions : List Function) (tally : Tally) (ts : List Lexeme) → Within Event (length (behind ts)) (event_at functions tally ts)
unfolding event_at
event_within functions tally ts =
    cond_within (is_terminal terminal.Begin (front ts)) (length (behind ts)) _ _ (begin_within functions tally ts)
    (cond_within (is_terminal terminal.Step (front ts)) (length (behind ts)) _ _ (step_within tally ts) (compile_within functions tally ts))

event_taken : (ts : List Lexeme) → is_event ts ≡ true → length (behind ts) < length ts
unfolding front behind
event_taken [] h = cc
event_taken (t ∷ ts) h = omega arith

pub event_shorter : (functions : List Function) (tally : Tally) (ts : List Lexeme) (x : Event × List Lexeme) → is_event ts ≡ true →
    event_at functions tally ts ≡ Ok x → length x.1 < length ts
event_shorter functions tally ts x b h =
    let s : length (behind ts) < length ts = event_taken ts b in
    let l : length x.1 ≤ length (behind ts) = (event_within functions tally ts).within x h in
    omega arith

pub next_shorter : (functions : List Function) (earlier : List Event) (ts : List Lexeme) (x : Event × List Lexeme) → is_event ts ≡ true →
    next_event functions earlier ts ≡ Ok x → length x.1 < length ts
next_shorter functions earlier ts x b h = event_shorter functions (tally_of earlier) ts x b h

pub events_turn : (functions : List Function) (tally : Tally) (earlier : List Event) (ts us : List Lexeme) (event : Event) → tally ≡ tally_of earlier →
    is_event ts ≡ true → event_at functions tally ts ≡ Ok (event, us) → events_at functions earlier ts ≡ events_at functions (earlier ++ event ∷ []) us
unfolding events_at front
events_turn functions tally earlier ts us event same b h =
    all_goes is_event (next_event functions) refl (next_shorter functions) earlier ts (event, us) b (ap (λ s. event_at functions s ts) (sym same) ∙ h)

pub events_fail : (functions : List Function) (tally : Tally) (earlier : List Event) (ts : List Lexeme) (e : Refused) → tally ≡ tally_of earlier →
    is_event ts ≡ true → event_at functions tally ts ≡ Err e → events_at functions earlier ts ≡ Err e
unfolding events_at front
events_fail functions tally earlier ts e same b h =
    all_fails is_event (next_event functions) refl (next_shorter functions) earlier ts e b (ap (λ s. event_at functions s ts) (sym same) ∙ h)

pub events_stop : (functions : List Function) (earlier : List Event) (ts : List Lexeme) → is_event ts ≡ false →
    events_at functions earlier ts ≡ Ok (earlier, ts)
unfolding events_at front
events_stop functions earlier ts b = all_stops is_event (next_event functions) refl (next_shorter functions) earlier ts b
