-- Turns from a state on, one after the other.
use Rattle.std.proofs.Common.{◌≡◌, ◌≢◌, ◌∙◌, refl, sym, ap, subst, arith, ℕ, zero, suc, ◌+◌, List, [], ◌++◌, append-nil, append_assoc, inr, ⊎_elim}
use Rattle.cj_ir.specs.WellFormed.{IsWellFormed}
use Rattle.cj_ir.specs.declared.language.Program.{Program}
use Rattle.cj_base.specs.declared.machine.End.{End}
use Rattle.cj_base.specs.Run.{Begun}
use Rattle.cj_calls.specs.declared.report.Look.{Look}
use Rattle.cj_machine.specs.Versions.{State, Codes, Progress, Continues, Finishes, Undefined}
use Rattle.cj_machine.specs.VersionRuns.{one_turn_more, version_run}
use Rattle.cj_machine.specs.Marks.{next_marks, run_marks}
use Rattle.cj_machine.specs.CodeMaps.{SoundCodes, Grows}
use Rattle.cj_machine.specs.Stands.{Holds}
use Rattle.cj_engine.specs.Stretches.{turns_from, marks_from}
use Rattle.cj_machine.proofs.Growing.{Kept}
use Rattle.cj_machine.proofs.Runs.{HasTurns, one_more_counted, one_more_kept}
use Rattle.cj_machine.proofs.RunMarks.{next_marks_kept, defined_before}
use Rattle.cj_machine.proofs.Reporting.{next_holds}

-- ---- turns and then others

module _ (P : Program) (codes : Codes) (trail : List Look) where
  pub turns_then : (p : Progress) (n m : ℕ) → turns_from P codes trail p (n + m) ≡ turns_from P codes trail (turns_from P codes trail p m) n
  unfolding turns_from
  turns_then p zero m = let e : 0 + m ≡ m = omega arith in rw e refl
  turns_then p (suc n) m =
      let e : suc n + m ≡ suc (n + m) = omega arith in
      rw e (ap (one_turn_more P codes trail) (turns_then p n m))

  pub marks_then : (p : Progress) (n m : ℕ) → marks_from P codes trail p (n + m) ≡ marks_from P codes trail p m
      ++ marks_from P codes trail (turns_from P codes trail p m) n
  unfolding marks_from
  marks_then p zero m = let e : 0 + m ≡ m = omega arith in rw e (sym (append-nil (marks_from P codes trail p m)))
  marks_then p (suc n) m =
      let e : suc n + m ≡ suc (n + m) = omega arith in
      let mid = turns_from P codes trail p m in
      rw e
      (ap (λ ms. ms ++ next_marks P codes (turns_from P codes trail p (n + m))) (marks_then p n m)
      ∙ ap (λ o. (marks_from P codes trail p m ++ marks_from P codes trail mid n) ++ next_marks P codes o) (turns_then p n m)
      ∙ append_assoc (marks_from P codes trail p m) (marks_from P codes trail mid n) (next_marks P codes (turns_from P codes trail mid n)))

  -- the run of a call, some turns on
  pub run_then : (call : Begun) (n m : ℕ) → version_run P codes trail call (n + m) ≡ turns_from P codes trail (version_run P codes trail call m) n
  unfolding turns_from version_run
  run_then call zero m = let e : 0 + m ≡ m = omega arith in rw e refl
  run_then call (suc n) m =
      let e : suc n + m ≡ suc (n + m) = omega arith in
      rw e (ap (one_turn_more P codes trail) (run_then call n m))

  pub run_marks_then : (call : Begun) (n m : ℕ) → run_marks P codes trail call (n + m) ≡ run_marks P codes trail call m
      ++ marks_from P codes trail (version_run P codes trail call m) n
  unfolding marks_from run_marks
  run_marks_then call zero m = let e : 0 + m ≡ m = omega arith in rw e (sym (append-nil (run_marks P codes trail call m)))
  run_marks_then call (suc n) m =
      let e : suc n + m ≡ suc (n + m) = omega arith in
      let mid = version_run P codes trail call m in
      rw e
      (ap (λ ms. ms ++ next_marks P codes (version_run P codes trail call (n + m))) (run_marks_then call n m)
      ∙ ap (λ o. (run_marks P codes trail call m ++ marks_from P codes trail mid n) ++ next_marks P codes o) (run_then call n m)
      ∙ append_assoc (run_marks P codes trail call m) (marks_from P codes trail mid n) (next_marks P codes (turns_from P codes trail mid n)))

  -- ---- an end

  pub ended_turns : (end : End) (s : State) (n : ℕ) → turns_from P codes trail (Finishes end s) n ≡ Finishes end s
  unfolding turns_from one_turn_more
  ended_turns end s zero = refl
  ended_turns end s (suc n) = ap (one_turn_more P codes trail) (ended_turns end s n)

  pub ended_marks : (end : End) (s : State) (n : ℕ) → marks_from P codes trail (Finishes end s) n ≡ []
  unfolding marks_from next_marks
  ended_marks end s zero = refl
  ended_marks end s (suc n) =
      ap (λ ms. ms ++ next_marks P codes (turns_from P codes trail (Finishes end s) n)) (ended_marks end s n) ∙ ap (next_marks P codes) (ended_turns end s n)

  -- ---- counts

  turns_counted_by : (s : State) (n : ℕ) → HasTurns (n + s.turns) (turns_from P codes trail (Continues s) n)
  unfolding turns_from
  turns_counted_by s zero = let e : 0 + s.turns ≡ s.turns = omega arith in rw e refl
  turns_counted_by s (suc n) =
      let e : suc n + s.turns ≡ suc (n + s.turns) = omega arith in
      rw e (one_more_counted P codes trail (n + s.turns) (turns_from P codes trail (Continues s) n) (turns_counted_by s n))

  -- where the run goes on, each turn has counted one
  pub turns_counted : (s t : State) (n : ℕ) → turns_from P codes trail (Continues s) n ≡ Continues t → t.turns ≡ n + s.turns
  turns_counted s t n made = subst (HasTurns (n + s.turns)) made (turns_counted_by s n)

-- ---- later code and a longer trail

module _ (P : Program) (codes later : Codes) (g : Grows codes later) (trail more : List Look) where
  turns_kept : (p : Progress) (n : ℕ) → Kept (turns_from P codes trail p n) (turns_from P later (trail ++ more) p n)
  unfolding turns_from
  turns_kept p zero = inr refl
  turns_kept p (suc n) = one_more_kept P codes later g trail more (turns_from P codes trail p n) (turns_from P later (trail ++ more) p n) (turns_kept p n)

  pub turns_later : (p : Progress) (n : ℕ) (o : Progress) → o ≢ Undefined → turns_from P codes trail p n ≡ o → turns_from P later (trail ++ more) p n ≡ o
  turns_later p n o defined e = ⊎_elim (λ none. absurd (defined (sym e ∙ none))) (λ same. sym same ∙ e) (turns_kept p n)

  pub marks_from_later : (p : Progress) (n : ℕ) → turns_from P codes trail p n ≢ Undefined →
      marks_from P later (trail ++ more) p n ≡ marks_from P codes trail p n
  unfolding marks_from turns_from
  marks_from_later p zero defined = refl
  marks_from_later p (suc n) defined =
      let mid = turns_from P codes trail p n in
      let before = defined_before P codes later g trail mid defined in
      let same = turns_later p n mid before refl in
      ap (λ o. marks_from P later (trail ++ more) p n ++ next_marks P later o) same
      ∙ ap (λ ms. ms ++ next_marks P later mid) (marks_from_later p n before)
      ∙ ap (λ ms. marks_from P codes trail p n ++ ms) (next_marks_kept P codes later g trail mid defined)

-- ---- what a state stands for

pub turns_hold : (P : Program) (codes : Codes) (trail : List Look) (call : Begun) → IsWellFormed P → SoundCodes P codes → (p : Progress) (n : ℕ) →
    Holds P codes call p → Holds P codes call (turns_from P codes trail p n)
unfolding turns_from
turns_hold P codes trail call formed sound p zero h = h
turns_hold P codes trail call formed sound p (suc n) h =
    next_holds P codes call formed sound trail (turns_from P codes trail p n) (turns_hold P codes trail call formed sound p n h)
