-- The base run of a call.
use Rattle.std.specs.Prelude.{◌≡◌, ℕ, zero, suc, List, [], ◌++◌, replicate, Option, Some, ℤ, pos, ⊤}
use Rattle.cj_ir.specs.declared.language.FunId.{FunId}
use Rattle.cj_ir.specs.declared.language.Program.{Program}
use Rattle.cj_ir.specs.declared.language.Instr.{Instr}
use Rattle.cj_ir.specs.declared.language.Instr.TheVariants.{Nop, Cond}
use Rattle.cj_ir.specs.declared.script.ScriptCall.{ScriptCall}
use Rattle.cj_base.specs.declared.machine.End.{End}
use Rattle.cj_ir.specs.Program.{instr_at}
use Rattle.cj_base.specs.Machine.{Stack, Config, Outcome, Goes, Ends, Stuck, entry_frame, base_turn}
use Rattle.cj_base.specs.Same.{Same}

-- a call with the memory that it begins with
pub record Begun : Type 0 where
  pub function : FunId
  pub args : List ℤ
  pub memory : List ℤ
  pub limit : ℕ

-- a call of a script begins with zeros
unfoldable pub begun : ScriptCall → Begun
begun call =
    record { function = call.function; args = call.args; memory = replicate call.cells (pos 0); limit = call.limit }

unfoldable pub start_of : Program → Begun → Config
start_of P call =
    record { stack = record { top = entry_frame P call.function call.args; waiting = [] }; memory = call.memory }

pub data Run : Type 0 where
  -- what was printed so far, and the configuration
  Going : (printed : List ℤ) → Config → Run
  -- what was printed, the end, and the turn that ended the run, counted from 1
  Over : (printed : List ℤ) → End → (turns : ℕ) → Run
  -- it came to a place where nothing stands: nothing is true of such a run
  Lost : Run

-- the run after the outcome of its n-th turn
unfoldable pub ran : List ℤ → ℕ → Outcome → Run
ran printed n (Goes more c) = Going (printed ++ more) c
ran printed n (Ends end) = Over printed end n
ran printed n Stuck = Lost

unfoldable pub one_more : Program → ℕ → Run → Run
one_more P n (Going printed c) = ran printed n (base_turn P c.stack c.memory)
one_more P n (Over printed end turns) = Over printed end turns
one_more P n Lost = Lost

-- the run after n base turns
unfoldable pub base_run : Program → Begun → ℕ → Run
base_run P call zero = Going [] (start_of P call)
base_run P call (suc n) = one_more P (suc n) (base_run P call n)

-- These are the prints of the run so far. A lost run has none.
abbrev pub HasPrinted : Run → List ℤ → Type 0
HasPrinted (Going printed c) prints = prints ≡ printed
HasPrinted (Over printed end turns) prints = prints ≡ printed
HasPrinted Lost prints = ⊥

-- After n base turns the run has these prints and this memory, and goes on from this stack.
pub record RunAt (P : Program) (call : Begun) (n : ℕ) (printed : List ℤ) (stack : Stack) (memory : List ℤ) : Type 0 where
  pub found : Stack
  pub run : base_run P call n ≡ Going printed (record { stack = found; memory = memory })
  pub same : Same P found stack

-- After n base turns the run goes on, with these prints.
abbrev pub GoesOn : Program → Begun → ℕ → List ℤ → Type 0
GoesOn P call n printed = (c : Config) × (base_run P call n ≡ Going printed c)

-- The run ended with its n-th base turn, with these prints and this end.
abbrev pub EndStands : Program → Begun → ℕ → List ℤ → End → Type 0
EndStands P call n printed end = base_run P call n ≡ Over printed end n

-- a nop or a cond
unfoldable pub IsSilent : Option Instr → Type 0
IsSilent (Some (Nop next)) = ⊤
IsSilent (Some (Cond test then_to else_to)) = ⊤
IsSilent instr = ⊥

-- the run goes on, and its next turn is a nop or a cond
abbrev pub SilentAt : Program → Run → Type 0
SilentAt P (Going printed c) = IsSilent (instr_at P c.stack.top.function c.stack.top.label)
SilentAt P (Over printed end turns) = ⊥
SilentAt P Lost = ⊥
