-- What holds before a turn of the engine, and what a turn leaves.
use Rattle.std.specs.Prelude.{◌≡◌, ◌<◌, ◌≤◌, ◌+◌, ℕ, List, length, Some, Bool, true, false, ℤ}
use Rattle.cj_ir.specs.WellFormed.{Takes, IsInstrFine}
use Rattle.cj_ir.specs.Program.{instr_at, label_count}
use Rattle.cj_ir.specs.declared.language.Program.{Program}
use Rattle.cj_ir.specs.declared.language.Instr.{Instr}
use Rattle.cj_ir.specs.declared.script.ScriptCall.{ScriptCall}
use Rattle.cj_base.specs.declared.machine.Frame.{Frame}
use Rattle.cj_base.specs.declared.machine.End.{End}
use Rattle.cj_base.specs.declared.machine.End.TheVariants.{TurnLimit}
use Rattle.cj_base.specs.declared.machine.Turned.{Turned}
use Rattle.cj_base.specs.declared.machine.Turned.TheVariants.{Running, Ended}
use Rattle.cj_base.specs.Run.{Begun}
use Rattle.cj_draft.specs.declared.code.Place.{Place}
use Rattle.cj_draft.specs.declared.code.Code.{Code}
use Rattle.cj_draft.specs.Arrives.{place_at}
use Rattle.cj_draft.specs.WellNamed.{IsVInstrFine}
use Rattle.cj_calls.specs.declared.report.Look.{Look}
use Rattle.cj_activations.specs.Activations.{VersionFrame, Active, InBase, InVersion}
use Rattle.cj_machine.specs.Versions.{State, Codes}
use Rattle.cj_machine.specs.Stands.{Stands}
use Rattle.cj_machine.specs.Machines.{IsEarly}
use Rattle.cj_machine.specs.Stepping.{CanTake, CanGoBack}
use Rattle.cj_draft.specs.declared.limits.TheConstants.{MAX_CODE_REGS}

-- A run as callers see it: its program, its state, its looks, and whether a further turn can be made.
pub record EngineView : Type 0 where
  pub program : Program
  pub state : State
  pub looks : List Look
  pub running : Bool

-- a script's call that begins with this memory
unfoldable pub begun_with : ScriptCall → List ℤ → Begun
begun_with call memory =
    record { function = call.function; args = call.args; memory = memory; limit = call.limit }

-- a base frame whose instruction exists, and all that it names
pub record BaseReady (P : Program) (fr : Frame) : Type 0 where
  pub label_within : fr.label.0 < label_count P fr.function
  pub instr : Instr
  pub at : instr_at P fr.function fr.label ≡ Some instr
  pub fine : IsInstrFine P.functions (length fr.regs) (label_count P fr.function) instr

-- a version whose place exists, and all that its instruction names
pub record VersionReady (P : Program) (codes : Codes) (base_turns : ℕ) (v : VersionFrame) : Type 0 where
  pub code : Code
  pub place : Place
  pub found : codes v.function v.offset ≡ Some code
  pub at : place_at code v.label ≡ Some place
  pub inside : v.function.0 < length P.functions
  pub few_regs : length v.regs ≤ MAX_CODE_REGS
  pub fine : IsVInstrFine P (length v.regs) (length code.places) place.instr
  pub back : CanGoBack base_turns place.instr

abbrev pub TopReady : Program → Codes → ℕ → Active → Type 0
TopReady P codes base_turns (InBase fr) = BaseReady P fr
TopReady P codes base_turns (InVersion v) = VersionReady P codes base_turns v

-- a turn can be made
pub record CanTurn (P : Program) (codes : Codes) (s : State) : Type 0 where
  pub early : IsEarly s
  pub top : TopReady P codes s.base_turns s.stack.top
  pub waiting : CanTake codes s.stack.waiting

-- whether the run goes on
unfoldable pub goes_on : Turned → Bool
goes_on Running = true
goes_on (Ended end) = false

-- the end of a run, which is the turn limit where no turn ended it
unfoldable pub end_after : Turned → End
end_after Running = TurnLimit
end_after (Ended end) = end

-- The state stands for the base run of some call, whose limit is so many turns away or more.
pub record HasRoom (P : Program) (codes : Codes) (count : ℕ) (s : State) : Type 0 where
  pub call : Begun
  pub takes : Takes P.functions call.function (length call.args)
  pub stands : Stands P codes call s
  pub room : s.turns + count ≤ call.limit
  pub limit : call.limit ≤ 1000000
