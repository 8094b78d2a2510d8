-- The calls of the runs of a play.
use Rattle.std.proofs.Common.{◌≡◌, ◌∙◌, refl, sym, ap, ℕ, zero, suc, ◌+◌, ◌-◌, Bool, true, false, List, [], ◌∷◌, ◌++◌, map, length, append-nil, append_assoc}
use Rattle.std.proofs.Common.{Option, Some, None, if◌then◌else◌}
use Rattle.std.specs.Prelude.{nat_lt, slice_get, slice_set}
use Rattle.std.proofs.lemmas.List.{map-append}
use Rattle.cj_ir.specs.declared.language.Program.{Program}
use Rattle.cj_base.specs.Run.{Begun, begun}
use Rattle.cj_draft.specs.declared.code.Code.{Code}
use Rattle.cj_draft.specs.declared.passes.Skipped.{Skipped}
use Rattle.cj_spelling.specs.Counting.{capped}
use Rattle.cj_events.specs.declared.events.Event.{Event}
use Rattle.cj_events.specs.declared.events.Event.TheVariants.{Begin, Step, Compile}
use Rattle.cj_world.specs.declared.played.Compiled.TheVariants.{Published, TooLarge, Full}
use Rattle.cj_world.specs.Worlds.{Run, World, codes_in, begun_run, turns, first_world, begins, became, moved, steps, limit_of, finishes, finished, claimed}
use Rattle.cj_world.specs.Worlds.{words_in, published, compiles}
use Rattle.cj_world.specs.Plays.{AllHappen, PlaysTo, calls_of}
use Rattle.cj_world.proofs.Gaining.{turns_gain}

abbrev calls_in : World → List Begun
calls_in w = map (λ run. run.call) w.runs

-- a run in the place of another of the same call
same_calls : (runs : List Run) (k : ℕ) (before after : Run) → slice_get runs k ≡ Some before → after.call ≡ before.call →
    map (λ run. run.call) (slice_set runs k after) ≡ map (λ run. run.call) runs
same_calls [] k before after at same = refl
same_calls (run ∷ runs) zero before after at same =
    let here : run ≡ before = cc in
    ap (λ (c : Begun). c ∷ map (λ run. run.call) runs) (same ∙ ap (λ (r : Run). r.call) (sym here))
same_calls (run ∷ runs) (suc k) before after at same = ap (λ calls. run.call ∷ calls) (same_calls runs k before after at same)

moved_calls : (P : Program) (k n : ℕ) (w : World) (found : Option Run) → slice_get w.runs k ≡ found → calls_in (moved P k n w found) ≡ calls_in w
unfolding moved became
moved_calls P k n w None at = refl
moved_calls P k n w (Some run) at =
    same_calls w.runs k run (turns P (codes_in w.made) w.current n run) at (turns_gain P (codes_in w.made) w.current n run).call

steps_calls : (P : Program) (k n : ℕ) (w : World) → calls_in (steps P k n w) ≡ calls_in w
unfolding steps
steps_calls P k n w = moved_calls P k n w (slice_get w.runs k) refl

finished_calls : (P : Program) (n : ℕ) (w : World) → calls_in (finished P n w) ≡ calls_in w
unfolding finished finishes
finished_calls P zero w = refl
finished_calls P (suc n) w =
    let before = finished P n w in
    steps_calls P n (limit_of (slice_get before.runs n)) before ∙ finished_calls P n w

answered_calls : (code : Code) (w : World) (large full : Bool) (len : ℕ) →
    calls_in (published code (if large then TooLarge (capped len) else if full then Full w.next len else Published w.next) w) ≡ calls_in w
unfolding published
answered_calls code w true full len = refl
answered_calls code w false true len = refl
answered_calls code w false false len = refl

compiles_calls : (words : ℕ) (code : Code) (skips : List (ℕ × Skipped)) (w : World) → calls_in (compiles words code skips w) ≡ calls_in w
unfolding compiles claimed
compiles_calls words code skips w =
    let len = words_in code in
    answered_calls code w (nat_lt 65536 len) (nat_lt words (w.next + len)) len

-- the events before, and those that are left
all_calls : (P : Program) (words : ℕ) (events : List Event) (before after : World) → AllHappen P words events before after →
    calls_in after ≡ calls_in before ++ map begun (calls_of events)
unfolding calls_of begins begun_run
all_calls P words [] before after is = ap calls_in is ∙ sym (append-nil (calls_in before))
all_calls P words (Begin call ∷ events) before after (between, is, rest) =
    let one : calls_in between ≡ calls_in before ++ begun call ∷ [] = ap calls_in is
    ∙ map-append (λ (run : Run). run.call) before.runs (begun_run P (codes_in before.made) before.current (begun call) ∷ []) in
    all_calls P words events between after rest
    ∙ ap (λ calls. calls ++ map begun (calls_of events)) one
    ∙ append_assoc (calls_in before) (begun call ∷ []) (map begun (calls_of events))
all_calls P words (Step run count ∷ events) before after (between, is, rest) =
    all_calls P words events between after rest
    ∙ ap (λ calls. calls ++ map begun (calls_of events)) (ap calls_in is ∙ steps_calls P (run - 1) count before)
all_calls P words (Compile f passes ∷ events) before after (between, (code, skips, pipeline, is), rest) =
    all_calls P words events between after rest
    ∙ ap (λ calls. calls ++ map begun (calls_of events)) (ap calls_in is ∙ compiles_calls words code skips before)

-- one run for each that begins, in order
pub calls_begun : (P : Program) (words : ℕ) (events : List Event) (after : World) → PlaysTo P words events after →
    map (λ run. run.call) after.runs ≡ map begun (calls_of events)
unfolding first_world
calls_begun P words events after plays =
    ap calls_in plays.ended
    ∙ finished_calls P (length plays.last.runs) plays.last
    ∙ all_calls P words events (first_world P) plays.last plays.happened
