-- The run of a call, from its start on and from turn to turn.
use Rattle.std.proofs.Common.{◌≡◌, sym, subst, arith, ℕ, ◌+◌, ◌<◌, ◌≤◌, List, [], ◌++◌, length, append-nil, Option}
use Rattle.std.specs.Prelude.{slice_get}
use Rattle.cj_ir.specs.WellFormed.{IsWellFormed, Takes}
use Rattle.cj_ir.specs.declared.language.Program.{Program}
use Rattle.cj_base.specs.declared.machine.End.{End}
use Rattle.cj_base.specs.declared.machine.Turned.{Turned}
use Rattle.cj_base.specs.declared.machine.Turned.TheVariants.{Running, Ended}
use Rattle.cj_base.specs.Run.{Begun}
use Rattle.cj_calls.specs.declared.report.Look.{Look}
use Rattle.cj_machine.specs.Versions.{State, Codes, Progress, Continues, Finishes, version_turn}
use Rattle.cj_machine.specs.VersionRuns.{version_start, version_run}
use Rattle.cj_machine.specs.Marks.{turn_marks, run_marks}
use Rattle.cj_machine.specs.CodeMaps.{SoundCodes, Grows}
use Rattle.cj_machine.specs.Stands.{HasEnded, Holds}
use Rattle.cj_machine.specs.Machines.{progress_of}
use Rattle.cj_machine.specs.CallRuns.{IsUnderWay, IsRun, HasFinished, RunGoes}
use Rattle.cj_machine.proofs.Growing.{stands_grows}
use Rattle.cj_machine.proofs.Runs.{CountsOne, turn_counts, run_later, continues_defined, run_turns, run_next, finished_stays, report_at_end}
use Rattle.cj_machine.proofs.Memories.{memory_at, memory_finishes}
use Rattle.cj_machine.proofs.RunMarks.{marks_next}
use Rattle.cj_machine.proofs.Reporting.{start_holds}

-- the start
pub start_is_run : (P : Program) (codes : Codes) (looks : List Look) (call : Begun) (s : State) → IsWellFormed P → SoundCodes P codes →
    Takes P.functions call.function (length call.args) → call.limit ≤ 1000000 → s.entries ≡ length looks →
    version_start P codes (slice_get looks 0) call ≡ Continues s → IsRun P codes looks call s
unfolding version_run
start_is_run P codes looks call s formed sound takes limit used made =
    let none : s.turns ≡ 0 = run_turns P codes looks call 0 s made in
    record {
      takes = takes;
      run = subst (λ (n : ℕ). version_run P codes looks call n ≡ Continues s) (sym none) made;
      used = used;
      stands = subst (Holds P codes call) made (start_holds P codes call formed sound (slice_get looks 0) takes);
      within = omega arith;
      limit = limit;
    }

-- before the limit a turn can be made
pub run_under_way : (P : Program) (codes : Codes) (looks : List Look) (call : Begun) (s : State) → IsRun P codes looks call s → s.turns < call.limit →
    IsUnderWay P codes s
run_under_way P codes looks call s is before =
    record { call = call; takes = is.takes; stands = is.stands; before = before; limit = is.limit }

-- more code keeps a run
pub run_grows : (P : Program) (codes later : Codes) (looks : List Look) (call : Begun) (s : State) → IsRun P codes looks call s → Grows codes later →
    IsRun P later looks call s
run_grows P codes later looks call s is g = record {
  takes = is.takes;
  run = subst (λ (ls : List Look). version_run P later ls call s.turns ≡ Continues s) (append-nil looks)
      (run_later P call codes later g looks [] s.turns (Continues s) (continues_defined s) is.run);
  used = is.used;
  stands = stands_grows P call codes later g s is.stands;
  within = is.within;
  limit = is.limit;
}

-- a run that a turn has ended
pub finished_is : (P : Program) (codes : Codes) (looks : List Look) (call : Begun) (n : ℕ) (end : End) (s : State) →
    version_run P codes looks call n ≡ Finishes end s → n ≤ call.limit → s.entries ≡ length looks → HasEnded P call end s → HasFinished P codes looks call end s
finished_is P codes looks call n end s run within used ended = record {
  report = report_at_end P codes looks call n end s run within used;
  memory = memory_at P codes looks call (Finishes end s) s.memory (finished_stays P codes looks call n call.limit end s run within) (memory_finishes end s);
  agrees = ended.memory;
}

-- ---- a turn

-- each turn counts one
pub turn_counted : (P : Program) (codes : Codes) (look : Option Look) (s after : State) (answer : Turned) →
    version_turn P codes look s ≡ progress_of answer after → after.turns ≡ s.turns + 1
turn_counted P codes look s after Running e = subst (CountsOne s.turns) e (turn_counts P codes look s)
turn_counted P codes look s after (Ended end) e = subst (CountsOne s.turns) e (turn_counts P codes look s)

module _ (P : Program) (call : Begun) (codes later : Codes) (g : Grows codes later) (looks more now : List Look) (longer : now ≡ looks ++ more) (s : State)
    (is : IsRun P codes looks call s) where
  -- the run after the turn
  turn_ran : (o : Progress) → version_turn P later (slice_get now (length looks)) s ≡ o → version_run P later now call (s.turns + 1) ≡ o
  turn_ran o turn =
      let at : version_turn P later (slice_get now s.entries) s ≡ o = subst (λ (n : ℕ). version_turn P later (slice_get now n) s ≡ o) (sym is.used) turn in
      let next : version_turn P later (slice_get (looks ++ more) s.entries) s
      ≡ o = subst (λ (ls : List Look). version_turn P later (slice_get ls s.entries) s ≡ o) longer at in
      subst (λ (ls : List Look). version_run P later ls call (s.turns + 1) ≡ o) (sym longer) (run_next P call codes later looks more s.turns s o g is.run next)

  -- its marks
  pub turn_marked : run_marks P later now call (s.turns + 1) ≡ run_marks P codes looks call s.turns ++ turn_marks P later s
  turn_marked =
      subst (λ (ls : List Look). run_marks P later ls call (s.turns + 1) ≡ run_marks P codes looks call s.turns ++ turn_marks P later s) (sym longer)
      (marks_next P call codes later looks more s.turns s g is.run)

  -- what it leaves
  pub turn_goes : s.turns < call.limit → (after : State) (answer : Turned) → version_turn P later (slice_get now (length looks)) s ≡ progress_of answer after →
      Holds P later call (progress_of answer after) → after.entries ≡ length now → RunGoes P later now call answer after
  turn_goes before after Running turn holds used =
      let run = turn_ran (Continues after) turn in
      let turns : after.turns ≡ s.turns + 1 = run_turns P later now call (s.turns + 1) after run in
      record {
        takes = is.takes;
        run = subst (λ (n : ℕ). version_run P later now call n ≡ Continues after) (sym turns) run;
        used = used;
        stands = holds;
        within = omega arith;
        limit = is.limit;
      }
  turn_goes before after (Ended end) turn holds used =
      let within : s.turns + 1 ≤ call.limit = omega arith in
      finished_is P later now call (s.turns + 1) end after (turn_ran (Finishes end after) turn) within used holds
