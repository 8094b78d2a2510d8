-- Calls whose run found no memory.
use Rattle.std.proofs.Common.{◌≡◌, ◌∙◌, refl, sym, ap, subst, arith, ℕ, ◌+◌, List, [], ◌∷◌, ◌++◌, append-nil, append_assoc, Option, None, inl, inr, ◌⊎◌, ⊎_elim}
use Rattle.std.specs.Prelude.{ℤ}
use Rattle.cj_ir.specs.declared.language.Program.{Program}
use Rattle.cj_base.specs.Run.{Begun}
use Rattle.cj_calls.specs.declared.report.Look.{Look}
use Rattle.cj_draft.specs.declared.code.Place.{Place}
use Rattle.cj_activations.specs.Activations.{VersionFrame, Active, InBase, InVersion}
use Rattle.cj_machine.specs.Versions.{State, Codes, Progress, Continues, place_in}
use Rattle.cj_machine.specs.VersionRuns.{version_run}
use Rattle.cj_machine.specs.Marks.{Mark, place_marks, marks_in, turn_marks, start_marks, run_marks}
use Rattle.cj_machine.specs.CodeMaps.{Grows}
use Rattle.cj_engine.specs.Watching.{Gains, TellsAtMost}
use Rattle.cj_machine.specs.Stepping.{PlaceTakesMemory, TopTakesMemory, TurnTakesMemory}
use Rattle.cj_machine.specs.CallRuns.{IsRun}
use Rattle.cj_engine.specs.Stretches.{turns_from, marks_from, Halted}
use Rattle.cj_engine.specs.Stopped.{StoppedAfter, Stopped}
use Rattle.cj_machine.proofs.Growing.{place_kept}
use Rattle.cj_machine.proofs.Runs.{run_later, continues_defined}
use Rattle.cj_machine.proofs.RunMarks.{marks_later, marks_at_start}
use Rattle.cj_engine.proofs.Paths.{run_then, run_marks_then}
use Rattle.cj_engine.proofs.Onwards.{tells_by, takes_later}

-- ---- the run of a call

-- a run that was begun and then halted
pub halted_stops : (P : Program) (one other went : List Mark → Type 0) (codes later : Codes) (looks now before between after : List Look) (call : Begun)
    (s t : State)
    → Grows codes later → ((ms ns : List Mark) → one ms → other ns → went (ms ++ ns)) → Gains [] looks before between → one (start_marks call)
    → IsRun P codes looks call s → s.turns ≡ 0 → Halted P other later looks now between after call.limit s t → StoppedAfter P went later before after call
halted_stops P one other went codes later looks now before between after call s t g both gains first is none h =
    let n = h.turns in
    let begun : version_run P later now call s.turns ≡ Continues s =
    subst (λ (xs : List Look). version_run P later xs call s.turns ≡ Continues s) (sym h.looks_more)
    (run_later P call codes later g looks h.more s.turns (Continues s) (continues_defined s) is.run) in
    let start : version_run P later now call 0 ≡ Continues s = subst (λ (m : ℕ). version_run P later now call m ≡ Continues s) none begun in
    let all : n + 0 ≡ n = omega arith in
    let run : version_run P later now call n ≡ Continues t =
    subst (λ (m : ℕ). version_run P later now call m ≡ Continues t) all
    (run_then P later now call n 0 ∙ ap (λ (o : Progress). turns_from P later now o n) start ∙ h.made) in
    let marks : run_marks P later now call n ≡ start_marks call ++ marks_from P later now (Continues s) n =
    subst (λ (m : ℕ). run_marks P later now call m ≡ start_marks call ++ marks_from P later now (Continues s) n) all
    (run_marks_then P later now call n 0 ∙ ap (λ (o : Progress). run_marks P later now call 0 ++ marks_from P later now o n) start
    ∙ ap (λ (ms : List Mark). ms ++ marks_from P later now (Continues s) n) (marks_at_start P later now call)) in
    let trail : between ++ h.more ≡ before ++ now =
    ap (λ (xs : List Look). xs ++ h.more) gains.trail_more ∙ append_assoc before gains.more h.more
    ∙ ap (λ (xs : List Look). before ++ xs) (ap (λ (xs : List Look). xs ++ h.more) (sym gains.looks_more) ∙ sym h.looks_more) in
    record {
      turns = n;
      fewer = h.fewer;
      looks = now;
      state = t;
      run = run;
      used = h.used;
      takes = h.takes;
      told = tells_by (λ ms. other (marks_from P later now (Continues s) n ++ ms)) (λ ms. went (run_marks P later now call n ++ ms)) (between ++ h.more)
          (before ++ now) after (turn_marks P later t)
          (λ ms w. subst went (sym (append_assoc (start_marks call) (marks_from P later now (Continues s) n) ms)
          ∙ ap (λ (xs : List Mark). xs ++ ms) (sym marks)) (both _ _ first w))
          trail h.told;
    }

-- ---- more code

place_marks_later : (v : VersionFrame) (m : List ℤ) (o later : Option Place) → (o ≡ None) ⊎ (o ≡ later) → PlaceTakesMemory v m o →
    place_marks v m later ≡ place_marks v m o
place_marks_later v m o later kept takes = ⊎_elim (λ none. absurd (subst (PlaceTakesMemory v m) none takes)) (λ same. ap (place_marks v m) (sym same)) kept

top_marks_later : (P : Program) (codes later : Codes) (m : List ℤ) (a : Active) → Grows codes later → TopTakesMemory P codes m a →
    marks_in P later m a ≡ marks_in P codes m a
unfolding marks_in
top_marks_later P codes later m (InBase fr) g takes = refl
top_marks_later P codes later m (InVersion v) g takes = place_marks_later v m (place_in codes v) (place_in later v) (place_kept P codes later g v) takes

-- a turn that takes memory has the same marks
marks_then_later : (P : Program) (codes later : Codes) (s : State) → Grows codes later → TurnTakesMemory P codes s → turn_marks P later s ≡ turn_marks P codes s
unfolding turn_marks
marks_then_later P codes later s g takes = top_marks_later P codes later s.memory s.stack.top g takes

after_later : (P : Program) (went : List Mark → Type 0) (codes later : Codes) (before after : List Look) (call : Begun) → Grows codes later →
    StoppedAfter P went codes before after call → StoppedAfter P went later before after call
after_later P went codes later before after call g h =
    let n = h.turns in
    let looks = h.looks in
    let run : version_run P later looks call n ≡ Continues h.state =
    subst (λ (xs : List Look). version_run P later xs call n ≡ Continues h.state) (append-nil looks)
    (run_later P call codes later g looks [] n (Continues h.state) (continues_defined h.state) h.run) in
    let marks : run_marks P later looks call n ≡ run_marks P codes looks call n =
    subst (λ (xs : List Look). run_marks P later xs call n ≡ run_marks P codes looks call n) (append-nil looks)
    (marks_later P call codes later g looks [] n (λ none. continues_defined h.state (sym h.run ∙ none))) in
    record {
      turns = n;
      fewer = h.fewer;
      looks = looks;
      state = h.state;
      run = run;
      used = h.used;
      takes = takes_later P codes later h.state g h.takes;
      told = subst (TellsAtMost (λ ms. went (run_marks P later looks call n ++ ms)) (before ++ looks) after)
          (sym (marks_then_later P codes later h.state g h.takes))
          (tells_by (λ ms. went (run_marks P codes looks call n ++ ms)) (λ ms. went (run_marks P later looks call n ++ ms)) (before ++ looks)
          (before ++ looks) after (turn_marks P codes h.state)
          (λ ms w. subst went (ap (λ (xs : List Mark). xs ++ ms) (sym marks)) w) refl h.told);
    }

-- a call stops in the same place over all codes that have those it had
pub stopped_later : (P : Program) (went : List Mark → Type 0) (codes later : Codes) (before after : List Look) (call : Begun) → Grows codes later →
    Stopped P went codes before after call → Stopped P went later before after call
stopped_later P went codes later before after call g stopped = ⊎_elim (λ start. inl start) (λ h. inr (after_later P went codes later before after call g h))
    stopped

-- ---- what was told

-- the marks that were told, and the looks that the trail gained
pub record ToldOnce (went : List Mark → Type 0) (before after : List Look) (Rest : List Mark → List Look → Type 0) : Type 0 where
  pub marks : List Mark
  pub told : went marks
  pub more : List Look
  pub gained : after ≡ before ++ more
  pub rest : Rest marks more

abbrev pub Is : List Mark → List Mark → Type 0
Is marks ms = ms ≡ marks

tells_once : (went : List Mark → Type 0) (before after : List Look) (marks : List Mark) → TellsAtMost went before after marks →
    ToldOnce went before after (λ ms more. (first : List Look) → TellsAtMost (Is ms) first (first ++ more) marks)
tells_once went before after marks told =
    ⊎_elim
    (λ none. record { marks = []; told = none.0; more = []; gained = none.1 ∙ sym (append-nil before); rest = λ first. inl (refl, append-nil first) })
    (λ e. record {
      marks = marks;
      told = e.told;
      more = record { function = e.function; offset = e.offset } ∷ [];
      gained = e.looked;
      rest = λ first. inr (record { function = e.function; args = e.args; offset = e.offset; entry = e.entry; told = refl; looked = refl });
    })
    told

after_once : (P : Program) (went : List Mark → Type 0) (codes : Codes) (before after : List Look) (call : Begun) →
    StoppedAfter P went codes before after call → ToldOnce went before after (λ ms more. StoppedAfter P (Is ms) codes [] more call)
after_once P went codes before after call h =
    let run = run_marks P codes h.looks call h.turns in
    let t = tells_once (λ ms. went (run ++ ms)) (before ++ h.looks) after (turn_marks P codes h.state) h.told in
    record {
      marks = run ++ t.marks;
      told = t.told;
      more = h.looks ++ t.more;
      gained = t.gained ∙ append_assoc before h.looks t.more;
      rest = record {
        turns = h.turns;
        fewer = h.fewer;
        looks = h.looks;
        state = h.state;
        run = h.run;
        used = h.used;
        takes = h.takes;
        told = tells_by (Is t.marks) (λ ms. Is (run ++ t.marks) (run ++ ms)) h.looks h.looks (h.looks ++ t.more) (turn_marks P codes h.state)
            (λ ms e. ap (λ (xs : List Mark). run ++ xs) e) refl (t.rest h.looks);
      };
    }

-- a watch was told some marks, with which the call stopped
pub stopped_once : (P : Program) (went : List Mark → Type 0) (codes : Codes) (before after : List Look) (call : Begun) →
    Stopped P went codes before after call → ToldOnce went before after (λ ms more. Stopped P (Is ms) codes [] more call)
stopped_once P went codes before after call stopped =
    ⊎_elim
    (λ start.
    let t = tells_once went before after (start_marks call) start in
    record { marks = t.marks; told = t.told; more = t.more; gained = t.gained; rest = inl (t.rest []) })
    (λ h.
    let t = after_once P went codes before after call h in
    record { marks = t.marks; told = t.told; more = t.more; gained = t.gained; rest = inr t.rest })
    stopped

-- the same, told otherwise
pub stopped_by : (P : Program) (one two : List Mark → Type 0) (codes : Codes) (before after : List Look) (call : Begun) →
    ((ms : List Mark) → one ms → two ms) → Stopped P one codes before after call → Stopped P two codes before after call
stopped_by P one two codes before after call more stopped =
    ⊎_elim
    (λ start. inl (tells_by one two before before after (start_marks call) more refl start))
    (λ h. inr (record {
      turns = h.turns;
      fewer = h.fewer;
      looks = h.looks;
      state = h.state;
      run = h.run;
      used = h.used;
      takes = h.takes;
      told = tells_by (λ ms. one (run_marks P codes h.looks call h.turns ++ ms)) (λ ms. two (run_marks P codes h.looks call h.turns ++ ms)) (before ++ h.looks)
          (before ++ h.looks) after (turn_marks P codes h.state) (λ ms w. more _ w) refl h.told;
    }))
    stopped
