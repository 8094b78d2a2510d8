-- The marks of a versioned run, turn by turn, over the code and the trail so far.
use Rattle.std.proofs.Common.{◌≡◌, ◌≢◌, ℕ, zero, suc, ◌+◌, ◌-◌, ◌≤◌, append-nil, List, [], Some, None, subst, ◌++◌, refl, sym, ap, ◌∙◌, add-one, ⊎_elim, arith}
use Rattle.std.specs.Prelude.{slice_get}
use Rattle.cj_ir.specs.declared.language.Program.{Program}
use Rattle.cj_base.specs.declared.machine.End.{End}
use Rattle.cj_base.specs.Run.{Begun}
use Rattle.cj_calls.specs.declared.report.Look.{Look}
use Rattle.cj_calls.specs.declared.report.Report.{Report}
use Rattle.cj_machine.specs.Versions.{State, Codes, Progress, Continues, Finishes, Undefined}
use Rattle.cj_machine.specs.VersionRuns.{one_turn_more, version_run, report_at, version_report}
use Rattle.cj_machine.specs.Marks.{turn_marks, next_marks, run_marks, start_marks}
use Rattle.cj_machine.specs.CodeMaps.{Grows}
use Rattle.cj_machine.proofs.Growing.{marks_kept}
use Rattle.cj_machine.proofs.Runs.{run_later, continues_defined, finished_stays}

module _ (P : Program) (codes later : Codes) (g : Grows codes later) (trail : List Look) where
  -- the turn that a run makes next, where that turn is defined
  pub next_marks_kept : (o : Progress) → one_turn_more P codes trail o ≢ Undefined → next_marks P later o ≡ next_marks P codes o
  unfolding next_marks one_turn_more
  next_marks_kept (Continues s) defined =
      ⊎_elim (λ none. absurd (defined none)) (λ same. sym same) (marks_kept P codes later g (slice_get trail s.entries) s)
  next_marks_kept (Finishes end s) defined = refl
  next_marks_kept Undefined defined = refl

  -- a run that is defined was so before its last turn
  pub defined_before : (o : Progress) → one_turn_more P codes trail o ≢ Undefined → o ≢ Undefined
  unfolding one_turn_more
  defined_before o defined = λ none. defined (ap (one_turn_more P codes trail) none)

module _ (P : Program) (call : Begun) (codes later : Codes) (g : Grows codes later) (trail more : List Look) where
  -- the marks of a run that is defined are the same over more code and a longer trail
  pub marks_later : (n : ℕ) → version_run P codes trail call n ≢ Undefined → run_marks P later (trail ++ more) call n ≡ run_marks P codes trail call n
  unfolding run_marks version_run
  marks_later zero defined = refl
  marks_later (suc n) defined =
      let run = version_run P codes trail call n in
      let before = defined_before P codes later g trail run defined in
      let same = run_later P call codes later g trail more n run before refl in
      ap (λ o. run_marks P later (trail ++ more) call n ++ next_marks P later o) same
      ∙ ap (λ ms. ms ++ next_marks P later run) (marks_later n before)
      ∙ ap (λ ms. run_marks P codes trail call n ++ ms) (next_marks_kept P codes later g trail run defined)

-- the marks after the next turn, over the code and the trail that there are after it
pub marks_next : (P : Program) (call : Begun) (codes later : Codes) (trail more : List Look) (n : ℕ) (s : State) → Grows codes later →
    version_run P codes trail call n ≡ Continues s → run_marks P later (trail ++ more) call (n + 1) ≡ run_marks P codes trail call n ++ turn_marks P later s
unfolding run_marks next_marks
marks_next P call codes later trail more n s g before =
    let defined : version_run P codes trail call n ≢ Undefined = λ none. continues_defined s (sym before ∙ none) in
    let same = run_later P call codes later g trail more n (Continues s) (continues_defined s) before in
    rw add-one
    (ap (λ o. run_marks P later (trail ++ more) call n ++ next_marks P later o) same
    ∙ ap (λ ms. ms ++ turn_marks P later s) (marks_later P call codes later g trail more n defined))

-- a run that has ended makes no more marks
ended_more : (P : Program) (codes : Codes) (trail : List Look) (call : Begun) (n d : ℕ) (end : End) (s : State) →
    version_run P codes trail call n ≡ Finishes end s → run_marks P codes trail call (d + n) ≡ run_marks P codes trail call n
unfolding run_marks next_marks
ended_more P codes trail call n zero end s e = let same : 0 + n ≡ n = omega arith in rw same refl
ended_more P codes trail call n (suc d) end s e =
    let same : suc d + n ≡ suc (d + n) = omega arith in
    let le : n ≤ d + n = omega arith in
    let over = finished_stays P codes trail call n (d + n) end s e le in
    rw same
    (ap (λ o. run_marks P codes trail call (d + n) ++ next_marks P codes o) over
    ∙ append-nil (run_marks P codes trail call (d + n))
    ∙ ended_more P codes trail call n d end s e)

pub marks_at_end : (P : Program) (codes : Codes) (trail : List Look) (call : Begun) (n m : ℕ) (end : End) (s : State) →
    version_run P codes trail call n ≡ Finishes end s → n ≤ m → run_marks P codes trail call m ≡ run_marks P codes trail call n
marks_at_end P codes trail call n m end s e le =
    let same : m - n + n ≡ m = omega arith in
    rw same at (ended_more P codes trail call n (m - n) end s e)

-- the start enters the called function
pub marks_at_start : (P : Program) (codes : Codes) (trail : List Look) (call : Begun) → run_marks P codes trail call 0 ≡ start_marks call
unfolding run_marks
marks_at_start P codes trail call = refl

-- more code keeps the marks of a run that has a report
pub marks_kept_whole : (P : Program) (call : Begun) (codes later : Codes) (trail : List Look) (r : Report) → Grows codes later →
    version_report P codes trail call ≡ Some r → run_marks P later trail call call.limit ≡ run_marks P codes trail call call.limit
unfolding version_report report_at
marks_kept_whole P call codes later trail r g e =
    let defined : version_run P codes trail call call.limit ≢ Undefined = λ none.
    let nothing : None ≡ Some r = sym (ap (report_at trail) none) ∙ e in
    let never : ⊥ = cc in
    absurd never in
    subst (λ (ls : List Look). run_marks P later ls call call.limit ≡ run_marks P codes trail call call.limit) (append-nil trail)
    (marks_later P call codes later g trail [] call.limit defined)
