-- Calls whose run found no memory.
use Rattle.std.specs.Prelude.{◌≡◌, ◌⊎◌, ◌<◌, ◌++◌, ℕ, List, length}
use Rattle.cj_ir.specs.declared.language.Program.{Program}
use Rattle.cj_base.specs.Run.{Begun}
use Rattle.cj_calls.specs.declared.report.Look.{Look}
use Rattle.cj_machine.specs.Versions.{State, Codes, Continues}
use Rattle.cj_machine.specs.VersionRuns.{version_run}
use Rattle.cj_machine.specs.Marks.{Mark, start_marks, run_marks, turn_marks}
use Rattle.cj_engine.specs.Watching.{TellsAtMost}
use Rattle.cj_machine.specs.Stepping.{TurnTakesMemory}

-- So many turns of the call's run were made, fewer than its limit, over these looks, which it used and which the trail gained.
-- The next turn found no memory. The marks so far were told, and of that turn nothing, or its entry.
pub record StoppedAfter (P : Program) (went : List Mark → Type 0) (codes : Codes) (before after : List Look) (call : Begun) : Type 0 where
  pub turns : ℕ
  pub fewer : turns < call.limit
  pub looks : List Look
  pub state : State
  pub run : version_run P codes looks call turns ≡ Continues state
  pub used : state.entries ≡ length looks
  pub takes : TurnTakesMemory P codes state
  pub told : TellsAtMost (λ marks. went (run_marks P codes looks call turns ++ marks)) (before ++ looks) after (turn_marks P codes state)

-- Memory ran out in the call's start, of which nothing was told, or its entry; or after some turns. `before` and `after` are
-- the looks of the watch.
abbrev pub Stopped : Program → (List Mark → Type 0) → Codes → List Look → List Look → Begun → Type 0
Stopped P went codes before after call = TellsAtMost went before after (start_marks call) ⊎ StoppedAfter P went codes before after call
