-- The base machine: what an instruction does, and the turn of a stack of frames.
use Rattle.std.specs.Prelude.{ℕ, ◌-◌, List, [], ◌∷◌, ◌++◌, length, map, reverse, replicate, Option, Some, None, ℤ, pos, negsuc, slice_get, slice_set}
use Rattle.std.specs.Prelude.{if◌then◌else◌}
use Rattle.std.specs.Ordering.{int_eq}
use Rattle.cj_ir.specs.Values.{operand_value, expr_value}
use Rattle.cj_ir.specs.declared.language.FunId.{FunId}
use Rattle.cj_ir.specs.declared.language.Label.{Label}
use Rattle.cj_ir.specs.declared.language.Reg.{Reg}
use Rattle.cj_ir.specs.declared.language.Expr.{Expr}
use Rattle.cj_ir.specs.declared.language.Program.{Program}
use Rattle.cj_ir.specs.declared.language.Instr.{Instr}
use Rattle.cj_ir.specs.declared.language.Instr.TheVariants.{Nop, Op, Cond, Call, Return, Print, Load, Store, Fail}
use Rattle.cj_base.specs.declared.machine.Frame.{Frame}
use Rattle.cj_base.specs.declared.machine.Waiting.{Waiting}
use Rattle.cj_base.specs.declared.machine.Config as code
use Rattle.cj_base.specs.declared.machine.End.{End}
use Rattle.cj_base.specs.declared.machine.End.TheVariants.{Returned, Failed, Address, Divide}
use Rattle.cj_ir.specs.Program.{instr_at, reg_count}

-- Stacks and configurations. The innermost waiting frame comes first.

pub record Stack : Type 0 where
  pub top : Frame
  pub waiting : List Waiting

pub record Config : Type 0 where
  pub stack : Stack
  pub memory : List ℤ

-- the code's configuration, whose list has the innermost waiting frame last
unfoldable pub config_of : code.Config → Config
config_of c = record { stack = record { top = c.top; waiting = reverse c.waiting }; memory = c.memory }

-- the stack with further waiting frames below
unfoldable pub over : Stack → List Waiting → Stack
over s below = record { top = s.top; waiting = s.waiting ++ below }

-- What an instruction does to the registers of its frame, the memory and the prints.

pub data Fault : Type 0 where
  FailedAt : (function : FunId) (label : Label) → Fault
  BadAddress : ℤ → Fault
  ZeroDivisor : Fault

pub data Effect : Type 0 where
  -- the frame goes on at `next`, with these registers and this memory, and `printed` is printed
  On : (next : Label) (regs memory printed : List ℤ) → Effect
  -- the frame waits at `next` for the value of a call, which goes into `dest`
  Calls : (dest : Reg) (function : FunId) (args : List ℤ) (next : Label) → Effect
  -- the frame is done, and gives this value
  Returns : ℤ → Effect
  Faults : Fault → Effect

-- goes on with a value, or faults where there is none
unfoldable pub with_value : Option ℤ → Fault → (ℤ → Effect) → Effect
with_value None fault go = Faults fault
with_value (Some v) fault go = go v

-- the cell of an address; none where it is negative or not below the memory's size
unfoldable pub cell : List ℤ → ℤ → Option ℤ
cell memory (pos a) = slice_get memory a
cell memory (negsuc a) = None

-- the memory with a value in the cell of an address
unfoldable pub with_cell : List ℤ → ℤ → ℤ → List ℤ
with_cell memory (pos a) v = slice_set memory a v
with_cell memory (negsuc a) v = memory

-- the label of a conditional branch
unfoldable pub branch : ℤ → Label → Label → Label
branch test then_to else_to = if int_eq test (pos 0) then else_to else then_to

unfoldable pub op_effect : Reg → Expr → Label → List ℤ → List ℤ → Effect
op_effect dest expr next regs m =
    with_value (expr_value regs expr) ZeroDivisor (λ v. On next (slice_set regs dest.0 v) m [])

unfoldable pub load_effect : Reg → ℤ → Label → List ℤ → List ℤ → Effect
load_effect dest address next regs m =
    with_value (cell m address) (BadAddress address) (λ v. On next (slice_set regs dest.0 v) m [])

unfoldable pub store_effect : ℤ → ℤ → Label → List ℤ → List ℤ → Effect
store_effect address value next regs m =
    with_value (cell m address) (BadAddress address) (λ v. On next regs (with_cell m address value) [])

-- the table of instructions, for a frame and a memory
unfoldable pub effect : Instr → Frame → List ℤ → Effect
effect (Nop next) fr m = On next fr.regs m []
effect (Op dest expr next) fr m = op_effect dest expr next fr.regs m
effect (Cond test then_to else_to) fr m = On (branch (operand_value fr.regs test) then_to else_to) fr.regs m []
effect (Call dest f args next) fr m = Calls dest f (map (operand_value fr.regs) args) next
effect (Return value) fr m = Returns (operand_value fr.regs value)
effect (Print value next) fr m = On next fr.regs m (operand_value fr.regs value ∷ [])
effect (Load dest address next) fr m = load_effect dest (operand_value fr.regs address) next fr.regs m
effect (Store address value next) fr m =
    store_effect (operand_value fr.regs address) (operand_value fr.regs value) next fr.regs m
effect (Fail text) fr m = Faults (FailedAt fr.function fr.label)

-- The turn of a stack with a memory.

pub data Outcome : Type 0 where
  -- goes on from a configuration, and prints
  Goes : (printed : List ℤ) → Config → Outcome
  Ends : End → Outcome
  -- nothing stands where the top frame is
  Stuck : Outcome

unfoldable pub end_of : Fault → End
end_of (FailedAt f label) = Failed f label
end_of (BadAddress a) = Address a
end_of ZeroDivisor = Divide

-- the arguments in the first registers, and 0 in all others
unfoldable pub entry_regs : ℕ → List ℤ → List ℤ
entry_regs count args = args ++ replicate (count - length args) (pos 0)

-- a function's frame as it is entered: the first listed label is the entry
unfoldable pub entry_frame : Program → FunId → List ℤ → Frame
entry_frame P f args = record { function = f; label = record { 0 = 0 }; regs = entry_regs (reg_count P f) args }

-- a caller's frame while it waits at the label after its call
unfoldable pub waits : Frame → Label → Reg → Waiting
waits fr next dest = record { function = fr.function; label = next; regs = fr.regs; dest = dest }

-- a waiting frame that has its value
unfoldable pub resumed : Waiting → ℤ → Frame
resumed w v = record { function = w.function; label = w.label; regs = slice_set w.regs w.dest.0 v }

-- the innermost waiting frame takes the value; with none the run ends
unfoldable pub give : ℤ → List Waiting → List ℤ → Outcome
give v [] m = Ends (Returned v)
give v (w ∷ ws) m = Goes [] (record { stack = record { top = resumed w v; waiting = ws }; memory = m })

unfoldable pub turn_by : Program → Effect → Stack → List ℤ → Outcome
turn_by P (On next regs m' printed) s m =
    Goes
    printed
    (record {
      stack = record {
        top = record { function = s.top.function; label = next; regs = regs };
        waiting = s.waiting;
      };
      memory = m';
    })
turn_by P (Calls dest f args next) s m =
    Goes
    []
    (record {
      stack = record { top = entry_frame P f args; waiting = waits s.top next dest ∷ s.waiting };
      memory = m;
    })
turn_by P (Returns v) s m = give v s.waiting m
turn_by P (Faults fault) s m = Ends (end_of fault)

unfoldable pub turn_at : Program → Option Instr → Stack → List ℤ → Outcome
turn_at P None s m = Stuck
turn_at P (Some instr) s m = turn_by P (effect instr s.top m) s m

-- One base turn. Of the first frames of a stack it is the same function, since they are a stack.
unfoldable pub base_turn : Program → Stack → List ℤ → Outcome
base_turn P s m = turn_at P (instr_at P s.top.function s.top.label) s m

-- the base turn of a configuration
abbrev pub turn_of : Program → Config → Outcome
turn_of P c = base_turn P c.stack c.memory
