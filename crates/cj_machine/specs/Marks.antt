-- The marks of a versioned run: what it tells of entries, branches and failed Assumes.
use Rattle.std.specs.Prelude.{ℕ, zero, suc, true, false, List, [], ◌∷◌, ◌++◌, Option, Some, None, ℤ, pos, if◌then◌else◌, ⊤}
use Rattle.std.specs.Ordering.{int_eq}
use Rattle.cj_ir.specs.Values.{operand_value}
use Rattle.cj_ir.specs.declared.language.FunId.{FunId}
use Rattle.cj_ir.specs.declared.language.Label.{Label}
use Rattle.cj_ir.specs.declared.language.Edge.{Edge}
use Rattle.cj_ir.specs.declared.language.Edge.TheVariants.{Then, Else}
use Rattle.cj_ir.specs.declared.language.Program.{Program}
use Rattle.cj_ir.specs.declared.language.Instr.{Instr}
use Rattle.cj_ir.specs.declared.language.Instr.TheVariants.{Cond}
use Rattle.cj_ir.specs.Program.{instr_at}
use Rattle.cj_base.specs.declared.machine.Frame.{Frame}
use Rattle.cj_base.specs.Machine.{Effect, Calls, effect}
use Rattle.cj_base.specs.Run.{Begun}
use Rattle.cj_draft.specs.declared.code.Place.{Place}
use Rattle.cj_draft.specs.Effects.{VersionEffect, Plain, Guarded, version_effect}
use Rattle.cj_calls.specs.declared.report.Look.{Look}
use Rattle.cj_activations.specs.Activations.{VersionFrame, Active, InBase, InVersion}
use Rattle.cj_machine.specs.Versions.{State, Codes, Progress, Continues, Finishes, Undefined, place_in}
use Rattle.cj_machine.specs.VersionRuns.{version_run}

pub data Mark : Type 0 where
  Entered : (function : FunId) (args : List ℤ) → Mark
  -- a conditional branch of a base frame took that edge
  Branched : (function : FunId) (label : Label) (edge : Edge) → Mark
  -- an Assume in a version of the function failed
  FailedIn : (function : FunId) → Mark

-- ---- branches

-- a cond
abbrev pub IsCond : Option Instr → Type 0
IsCond (Some (Cond test then_to else_to)) = ⊤
IsCond instr = ⊥

-- a cond stands at that label of the function
abbrev pub IsBranch : Program → FunId → Label → Type 0
IsBranch P f label = IsCond (instr_at P f label)

-- ---- the marks of one turn

-- the edge of a conditional branch
unfoldable pub edge_of : ℤ → Edge
edge_of test = if int_eq test (pos 0) then Else else Then

-- a call enters its function
unfoldable pub effect_marks : Effect → List Mark
effect_marks (Calls dest f args next) = Entered f args ∷ []
effect_marks e = []

unfoldable pub base_marks : Frame → List ℤ → Option Instr → List Mark
base_marks fr m None = []
base_marks fr m (Some (Cond test then_to else_to)) =
    Branched fr.function fr.label (edge_of (operand_value fr.regs test)) ∷ []
base_marks fr m (Some instr) = effect_marks (effect instr fr m)

unfoldable pub version_marks : VersionFrame → VersionEffect → List Mark
version_marks v (Plain e) = effect_marks e
version_marks v (Guarded true back target next) = []
version_marks v (Guarded false back target next) = FailedIn v.function ∷ []

unfoldable pub place_marks : VersionFrame → List ℤ → Option Place → List Mark
place_marks v m None = []
place_marks v m (Some place) = version_marks v (version_effect place.instr v.regs m)

unfoldable pub marks_in : Program → Codes → List ℤ → Active → List Mark
marks_in P codes m (InBase fr) = base_marks fr m (instr_at P fr.function fr.label)
marks_in P codes m (InVersion v) = place_marks v m (place_in codes v)

-- the marks of the turn that a state makes
unfoldable pub turn_marks : Program → Codes → State → List Mark
turn_marks P codes s = marks_in P codes s.memory s.stack.top

-- ---- the marks of a run

-- a start enters the called function
unfoldable pub start_marks : Begun → List Mark
start_marks call = Entered call.function call.args ∷ []

-- those of the next turn, which a run that has ended does not make
unfoldable pub next_marks : Program → Codes → Progress → List Mark
next_marks P codes (Continues s) = turn_marks P codes s
next_marks P codes (Finishes end s) = []
next_marks P codes Undefined = []

-- the marks of the start and of the first n turns
unfoldable pub run_marks : Program → Codes → List Look → Begun → ℕ → List Mark
run_marks P codes trail call zero = start_marks call
run_marks P codes trail call (suc n) =
    run_marks P codes trail call n ++ next_marks P codes (version_run P codes trail call n)
