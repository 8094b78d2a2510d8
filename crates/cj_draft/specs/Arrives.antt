-- Where a run of a code may be, and what its base frames do at a call.
use Rattle.std.specs.Prelude.{◌≡◌, List, [], ◌∷◌, length, map, All, Option, Some, ℤ, slice_get}
use Rattle.cj_ir.specs.Values.{register, operand_value}
use Rattle.cj_ir.specs.declared.language.FunId.{FunId}
use Rattle.cj_ir.specs.declared.language.Label.{Label}
use Rattle.cj_ir.specs.declared.language.Reg.{Reg}
use Rattle.cj_ir.specs.declared.language.Program.{Program}
use Rattle.cj_ir.specs.declared.language.Operand.{Operand}
use Rattle.cj_ir.specs.declared.language.Instr.{Instr}
use Rattle.cj_ir.specs.declared.language.Instr.TheVariants.{Call}
use Rattle.cj_ir.specs.Program.{instr_at}
use Rattle.cj_base.specs.declared.machine.Waiting.{Waiting}
use Rattle.cj_base.specs.Machine.{Stack, waits, resumed}
use Rattle.cj_base.specs.Same.{Same}
use Rattle.cj_draft.specs.declared.facts.Fact.{Fact}
use Rattle.cj_draft.specs.declared.facts.Facts.{Facts}
use Rattle.cj_draft.specs.declared.facts.Facts.TheVariants.{Unreached, Known}
use Rattle.cj_draft.specs.declared.code.Place.{Place}
use Rattle.cj_draft.specs.declared.code.Code.{Code}
use Rattle.cj_draft.specs.Points.{frames_of}

-- ---- registers and frames at a label

abbrev pub place_at : Code → Label → Option Place
place_at code label = slice_get code.places label.0

abbrev pub Satisfies : List Fact → List ℤ → Type 0
Satisfies facts regs = All (λ fact. register regs fact.reg.0 ≡ fact.value) facts

-- nothing comes to a label that is not reached
abbrev pub Allows : Facts → List ℤ → Type 0
Allows Unreached regs = ⊥
Allows (Known facts) regs = Satisfies facts regs

-- the registers with which a place may be reached: any whole numbers that satisfy its facts
pub record Admits (code : Code) (place : Place) (regs : List ℤ) : Type 0 where
  pub count : length regs ≡ code.regs
  pub facts : Allows place.facts regs

-- With these registers a run may be at this label where the base run has these frames: the label's facts hold, and its
-- point has these frames.
pub record Arrives (P : Program) (code : Code) (label : Label) (regs : List ℤ) (stack : Stack) : Type 0 where
  pub place : Place
  pub at : place_at code label ≡ Some place
  pub admits : Admits code place regs
  pub same : Same P stack (frames_of P place.point regs)

-- ---- calls

-- the base instruction at which a stack is
abbrev pub instr_of : Program → Stack → Option Instr
instr_of P stack = instr_at P stack.top.function stack.top.label

-- the stack is at a call of this function, with these arguments
pub record IsAtCall (P : Program) (stack : Stack) (f : FunId) (args : List ℤ) : Type 0 where
  pub dest : Reg
  pub operands : List Operand
  pub next : Label
  pub at : instr_of P stack ≡ Some (Call dest f operands next)
  pub values : map (operand_value stack.top.regs) operands ≡ args

unfoldable pub left_by : Option Instr → Stack → List Waiting
left_by (Some (Call dest f operands next)) stack = waits stack.top next dest ∷ stack.waiting
left_by instr stack = []

-- the frames that wait while the call runs at which the stack is
unfoldable pub left_waiting : Program → Stack → List Waiting
left_waiting P stack = left_by (instr_of P stack) stack

unfoldable pub returned_by : Option Instr → Stack → ℤ → Stack
returned_by (Some (Call dest f operands next)) stack value =
    record { top = resumed (waits stack.top next dest) value; waiting = stack.waiting }
returned_by instr stack value = stack

-- the stack after the call at which it is returned a value
unfoldable pub after_call : Program → Stack → ℤ → Stack
after_call P stack value = returned_by (instr_of P stack) stack value
