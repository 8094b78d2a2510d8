-- Turns, one after the other.
use Rattle.std.specs.Prelude.{◌≡◌, ◌≢◌, ◌⊎◌, ◌<◌, ◌≤◌, ◌+◌, ◌++◌, ℕ, zero, suc, List, [], length, Option, ℤ}
use Rattle.cj_ir.specs.declared.language.FunId.{FunId}
use Rattle.cj_ir.specs.declared.language.Label.{Label}
use Rattle.cj_ir.specs.declared.language.Program.{Program}
use Rattle.cj_base.specs.declared.machine.Turned.{Turned}
use Rattle.cj_calls.specs.declared.report.Look.{Look}
use Rattle.cj_machine.specs.declared.steps.Step.{Step}
use Rattle.cj_machine.specs.declared.steps.Step.TheVariants as step
use Rattle.cj_machine.specs.Versions.{State, Codes, Progress, Continues, version_turn}
use Rattle.cj_machine.specs.VersionRuns.{one_turn_more}
use Rattle.cj_machine.specs.Marks.{Mark, turn_marks, next_marks}
use Rattle.cj_machine.specs.CodeMaps.{Grows}
use Rattle.cj_machine.specs.Machines.{progress_of}
use Rattle.cj_engine.specs.Watching.{TellsAtMost}
use Rattle.cj_machine.specs.Stepping.{IsStep, IsReady, IsEntry, Turn, TurnTakesMemory, marks_told}

-- ---- turns of a version that leave nothing to do

-- A turn leads from one state to the next, over all codes that have these. It uses no look, and tells nothing.
pub record IsQuiet (P : Program) (codes : Codes) (s t : State) : Type 0 where
  pub turn : (later : Codes) (look : Option Look) → Grows codes later → version_turn P later look s ≡ Continues t
  pub marks : (later : Codes) → Grows codes later → turn_marks P later s ≡ []
  pub entries : t.entries ≡ s.entries

-- so many of them
abbrev pub Quiet : Program → Codes → ℕ → State → State → Type 0
Quiet P codes zero s t = t ≡ s
Quiet P codes (suc n) s t = (mid : State) × Quiet P codes n s mid × IsQuiet P codes mid t

-- what was left to do makes this of a turn
abbrev pub IsCarried : Program → List ℤ → State → Step → Codes → Option Look → Progress → Type 0
IsCarried P args now step later look final = (turn : Turn) (before : State) → IsStep P turn args before now step → turn later look ≡ final

-- After so many quiet turns one more was made, but for what the step leaves to do.
pub record Stops (P : Program) (codes : Codes) (args : List ℤ) (f : FunId) (label : Label) (count : ℕ) (s t : State) (left : Step) : Type 0 where
  pub turns : ℕ
  pub fewer : turns + 1 ≤ count
  pub stops : left ≢ step.Goes
  pub mid : State
  pub quiet : Quiet P codes turns s mid
  pub done : (later : Codes) (look : Option Look) (final : Progress) → Grows codes later → IsCarried P args t left later look final →
      version_turn P later look mid ≡ final
  pub marks : (later : Codes) → Grows codes later → turn_marks P later mid ≡ marks_told left f label args
  pub ready : IsReady P codes args f label t left
  pub entry : IsEntry left → t ≡ mid
  pub takes : IsEntry left → TurnTakesMemory P codes mid

-- At most so many turns were made: quiet ones alone, or one more.
abbrev pub Glides : Program → Codes → List ℤ → FunId → Label → ℕ → State → State → Step → Type 0
Glides P codes args f label count s t left =
    ((left ≡ step.Goes) × (turns : ℕ) × (1 ≤ turns) × (turns ≤ count) × Quiet P codes turns s t) ⊎ Stops P codes args f label count s t left

-- After so many quiet turns, fewer than that, the next one found no memory.
pub record Starves (P : Program) (codes : Codes) (count : ℕ) (s t : State) : Type 0 where
  pub turns : ℕ
  pub fewer : turns < count
  pub quiet : Quiet P codes turns s t
  pub takes : TurnTakesMemory P codes t

-- ---- turns of the versioned machine, one after the other

-- so many turns, over this trail; a run that has ended makes none
unfoldable pub turns_from : Program → Codes → List Look → Progress → ℕ → Progress
turns_from P codes trail p zero = p
turns_from P codes trail p (suc n) = one_turn_more P codes trail (turns_from P codes trail p n)

-- their marks
unfoldable pub marks_from : Program → Codes → List Look → Progress → ℕ → List Mark
marks_from P codes trail p zero = []
marks_from P codes trail p (suc n) = marks_from P codes trail p n ++ next_marks P codes (turns_from P codes trail p n)

-- So many turns were made, or as many as there were to the end of the run, over the trail that there is after them.
-- Their marks were told.
pub record Onward (P : Program) (went : List Mark → Type 0) (codes : Codes) (trail : List Look) (count : ℕ) (s : State) (answer : Turned)
    (t : State) : Type 0 where
  pub made : turns_from P codes trail (Continues s) count ≡ progress_of answer t
  pub told : went (marks_from P codes trail (Continues s) count)

-- At least one turn was made, and at most so many.
pub record Stretched (P : Program) (went : List Mark → Type 0) (codes : Codes) (trail : List Look) (count : ℕ) (s : State) (answer : Turned)
    (t : State) : Type 0 where
  pub turns : ℕ
  pub some : 1 ≤ turns
  pub few : turns ≤ count
  pub onward : Onward P went codes trail turns s answer t

-- Memory ran out after some of so many turns, and the run is where those brought it, with all its looks used. Their marks
-- were told, and of the turn that found no memory nothing, or its entry. `looks` and `before` were the looks of the run and
-- of the watch.
pub record Halted (P : Program) (went : List Mark → Type 0) (codes : Codes) (looks now before after : List Look) (count : ℕ) (s t : State) : Type 0 where
  pub turns : ℕ
  pub fewer : turns < count
  pub made : turns_from P codes now (Continues s) turns ≡ Continues t
  pub takes : TurnTakesMemory P codes t
  pub more : List Look
  pub looks_more : now ≡ looks ++ more
  pub used : t.entries ≡ length now
  pub told : TellsAtMost (λ ms. went (marks_from P codes now (Continues s) turns ++ ms)) (before ++ more) after (turn_marks P codes t)
