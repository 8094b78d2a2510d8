-- What an instruction leaves to do, in the words of the versioned machine.
use Rattle.std.specs.Prelude.{◌≡◌, ◌<◌, ◌≤◌, ℕ, List, [], ◌∷◌, Option, Some, None, ℤ, length, false, ⊤}
use Rattle.cj_ir.specs.WellFormed.{Takes}
use Rattle.cj_ir.specs.Program.{instr_at}
use Rattle.cj_ir.specs.declared.language.FunId.{FunId}
use Rattle.cj_ir.specs.declared.language.Label.{Label}
use Rattle.cj_ir.specs.declared.language.Reg.{Reg}
use Rattle.cj_ir.specs.declared.language.Operand.{Operand}
use Rattle.cj_ir.specs.declared.language.Program.{Program}
use Rattle.cj_ir.specs.declared.language.Instr.{Instr}
use Rattle.cj_ir.specs.declared.language.Instr.TheVariants as base
use Rattle.cj_base.specs.declared.machine.Frame.{Frame}
use Rattle.cj_base.specs.declared.machine.Turned.{Turned}
use Rattle.cj_base.specs.declared.machine.Turned.TheVariants.{Running, Ended}
use Rattle.cj_base.specs.Machine.{Effect, On, Calls, Returns, Faults, effect}
use Rattle.cj_draft.specs.declared.instructions.VInstr.{VInstr}
use Rattle.cj_draft.specs.declared.instructions.VInstr.TheVariants.{Call, Assume}
use Rattle.cj_draft.specs.declared.code.Place.{Place}
use Rattle.cj_draft.specs.declared.code.Code.{Code}
use Rattle.cj_draft.specs.Arrives.{place_at}
use Rattle.cj_draft.specs.Effects.{VersionEffect, Plain, Guarded, version_effect}
use Rattle.cj_calls.specs.declared.report.Look.{Look}
use Rattle.cj_activations.specs.declared.windows.Position.TheVariants.{Version}
use Rattle.cj_activations.specs.Changes.{position_of}
use Rattle.cj_activations.specs.Activations.{VersionFrame, Active, InBase, InVersion, Paused, BaseWaits, VersionWaits}
use Rattle.cj_machine.specs.declared.steps.Step.{Step}
use Rattle.cj_machine.specs.declared.steps.Step.TheVariants as step
use Rattle.cj_machine.specs.Versions.{State, Codes, Progress, Continues, Finishes, place_in, returns_to, turn_by, version_turn_by}
use Rattle.cj_machine.specs.Marks.{Mark, Entered, Branched, FailedIn, base_marks, version_marks, IsCond, IsBranch}
use Rattle.cj_machine.specs.Machines.{IsEarly}

-- the outcome of a turn, over codes and the next look
abbrev pub Turn : Type 0
Turn = Codes → Option Look → Progress

-- A turn with this outcome was made from the old state to the new one, but for what the step leaves to do.
abbrev pub IsStep : Program → Turn → List ℤ → State → State → Step → Type 0
IsStep P turn args old new step.Goes = (codes : Codes) (look : Option Look) → turn codes look ≡ Continues new
IsStep P turn args old new (step.Branches edge) = (codes : Codes) (look : Option Look) → turn codes look ≡ Continues new
IsStep P turn args old new (step.Ends end) = (codes : Codes) (look : Option Look) → turn codes look ≡ Finishes end new
IsStep P turn args old new (step.Enters dest f next) =
    (new ≡ old) × ((codes : Codes) (look : Option Look) → turn codes look ≡ turn_by P codes look old old.stack.top (Calls dest f args next))
IsStep P turn args old new (step.Returns v) =
    (new ≡ old) × ((codes : Codes) (look : Option Look) → turn codes look ≡ returns_to codes old v old.stack.waiting)
IsStep P turn args old new step.Fails = (codes : Codes) (look : Option Look) → turn codes look ≡ Continues new

-- what is told of the step, in a function and at a label
unfoldable pub marks_told : Step → FunId → Label → List ℤ → List Mark
marks_told step.Goes f label args = []
marks_told (step.Branches edge) f label args = Branched f label edge ∷ []
marks_told (step.Ends end) f label args = []
marks_told (step.Enters dest g next) f label args = Entered g args ∷ []
marks_told (step.Returns v) f label args = []
marks_told step.Fails f label args = FailedIn f ∷ []

-- what an instruction is whose step leaves a branch, an entry or a failure
abbrev pub BaseNeeds : Instr → List ℤ → Step → Type 0
BaseNeeds instr args step.Goes = ⊤
BaseNeeds instr args (step.Branches edge) = IsCond (Some instr)
BaseNeeds instr args (step.Ends end) = ⊤
BaseNeeds instr args (step.Enters dest g next) = (given : List Operand) × (instr ≡ base.Call dest g given next) × (length args ≡ length given)
BaseNeeds instr args (step.Returns v) = ⊤
BaseNeeds instr args step.Fails = ⊥

abbrev pub VersionNeeds : VInstr → List ℤ → Step → Type 0
VersionNeeds instr args step.Goes = ⊤
VersionNeeds instr args (step.Branches edge) = ⊥
VersionNeeds instr args (step.Ends end) = ⊤
VersionNeeds instr args (step.Enters dest g next) = (given : List Operand) × (instr ≡ Call dest g given next) × (length args ≡ length given)
VersionNeeds instr args (step.Returns v) = ⊤
VersionNeeds instr args step.Fails = ⊤

-- the step of a base frame's instruction
pub record IsBaseStep (instr : Instr) (args : List ℤ) (old new : State) (step : Step) : Type 0 where
  pub made : (P : Program) (fr : Frame) → old.stack.top ≡ InBase fr →
      IsStep P (λ codes look. turn_by P codes look old (InBase fr) (effect instr fr old.memory)) args old new step
  pub marks : (fr : Frame) → old.stack.top ≡ InBase fr → base_marks fr old.memory (Some instr) ≡ marks_told step fr.function fr.label args
  pub needs : BaseNeeds instr args step

-- a step that leaves nothing to do stays in its version
abbrev pub StaysIn : VersionFrame → State → Step → Type 0
StaysIn v new step.Goes = (label : Label) × (position_of new.stack.top ≡ Version v.function v.offset label)
StaysIn v new step = ⊤

-- the step of the instruction of a version's place
pub record IsVersionStep (instr : VInstr) (args : List ℤ) (old new : State) (step : Step) : Type 0 where
  pub made : (P : Program) (v : VersionFrame) → old.stack.top ≡ InVersion v →
      IsStep P (λ codes look. version_turn_by P codes look old v (version_effect instr v.regs old.memory)) args old new step
  pub marks : (v : VersionFrame) → old.stack.top ≡ InVersion v → version_marks v (version_effect instr v.regs old.memory)
      ≡ marks_told step v.function v.label args
  pub needs : VersionNeeds instr args step
  pub stays : (v : VersionFrame) → old.stack.top ≡ InVersion v → StaysIn v new step

-- the instruction at that label of the version that a function has at an offset
pub record StandsAt (codes : Codes) (f : FunId) (offset : ℕ) (label : Label) (instr : VInstr) : Type 0 where
  pub code : Code
  pub place : Place
  pub found : codes f offset ≡ Some code
  pub at : place_at code label ≡ Some place
  pub is : place.instr ≡ instr

-- A version that waits is at a call, whose destination is one of its registers.
pub record IsCaller (codes : Codes) (v : VersionFrame) : Type 0 where
  pub code : Code
  pub place : Place
  pub found : codes v.function v.offset ≡ Some code
  pub at : place_at code v.label ≡ Some place
  pub dest : Reg
  pub function : FunId
  pub args : List Operand
  pub next : Label
  pub instr : place.instr ≡ Call dest function args next
  pub within : dest.0 < length v.regs

-- the innermost of those that wait can take a value
abbrev pub CanTake : Codes → List Paused → Type 0
CanTake codes [] = ⊤
CanTake codes (BaseWaits w ∷ others) = w.dest.0 < length w.regs
CanTake codes (VersionWaits v ∷ others) = IsCaller codes v

-- what a step needs for what it leaves to do
abbrev pub IsReady : Program → Codes → List ℤ → FunId → Label → State → Step → Type 0
IsReady P codes args f label s step.Goes = ⊤
IsReady P codes args f label s (step.Branches edge) = IsBranch P f label
IsReady P codes args f label s (step.Ends end) = ⊤
IsReady P codes args f label s (step.Enters dest g next) = IsEarly s × Takes P.functions g (length args)
IsReady P codes args f label s (step.Returns v) = IsEarly s × CanTake codes s.stack.waiting
IsReady P codes args f label s step.Fails = f.0 < length P.functions

-- the step that an answer leaves
unfoldable pub step_of : Turned → Step
step_of Running = step.Goes
step_of (Ended end) = step.Ends end

-- Calls, prints and failing Assumes alone take memory.
abbrev pub EffectTakesMemory : Effect → Type 0
EffectTakesMemory (On next regs m []) = ⊥
EffectTakesMemory (On next regs m (p ∷ printed)) = ⊤
EffectTakesMemory (Calls dest f args next) = ⊤
EffectTakesMemory (Returns v) = ⊥
EffectTakesMemory (Faults fault) = ⊥

abbrev pub VersionTakesMemory : VersionEffect → Type 0
VersionTakesMemory (Plain e) = EffectTakesMemory e
VersionTakesMemory (Guarded b back target next) = b ≡ false

abbrev pub BaseTakesMemory : Frame → List ℤ → Option Instr → Type 0
BaseTakesMemory fr m None = ⊥
BaseTakesMemory fr m (Some instr) = EffectTakesMemory (effect instr fr m)

abbrev pub PlaceTakesMemory : VersionFrame → List ℤ → Option Place → Type 0
PlaceTakesMemory v m None = ⊥
PlaceTakesMemory v m (Some place) = VersionTakesMemory (version_effect place.instr v.regs m)

abbrev pub TopTakesMemory : Program → Codes → List ℤ → Active → Type 0
TopTakesMemory P codes m (InBase fr) = BaseTakesMemory fr m (instr_at P fr.function fr.label)
TopTakesMemory P codes m (InVersion v) = PlaceTakesMemory v m (place_in codes v)

-- the turn that a state makes takes memory
abbrev pub TurnTakesMemory : Program → Codes → State → Type 0
TurnTakesMemory P codes s = TopTakesMemory P codes s.memory s.stack.top

-- a function is still to be entered
abbrev pub IsEntry : Step → Type 0
IsEntry (step.Enters dest g next) = ⊤
IsEntry step = ⊥

-- the base frames of an Assume are no more turns ago than there were base turns
abbrev pub CanGoBack : ℕ → VInstr → Type 0
CanGoBack base_turns (Assume guards back target next) = back ≤ base_turns
CanGoBack base_turns instr = ⊤
