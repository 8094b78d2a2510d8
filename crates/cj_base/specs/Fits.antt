-- Configurations that fit a program.
use Rattle.std.specs.Prelude.{◌≡◌, ◌<◌, List, length, All, ℤ, ⊤}
use Rattle.cj_ir.specs.declared.language.FunId.{FunId}
use Rattle.cj_ir.specs.declared.language.Label.{Label}
use Rattle.cj_ir.specs.declared.language.Program.{Program}
use Rattle.cj_base.specs.declared.machine.Waiting.{Waiting}
use Rattle.cj_ir.specs.Program.{reg_count, label_count}
use Rattle.cj_base.specs.Machine.{Stack, Config, Outcome, Goes, Ends, Stuck}

-- the function is one of the program, the label one of that function, and there is a value for each of its registers
pub record IsFrameOf (P : Program) (function : FunId) (label : Label) (regs : List ℤ) : Type 0 where
  pub label_within : label.0 < label_count P function
  pub all_regs : length regs ≡ reg_count P function

-- the destination too is a register of the function
pub record IsWaitingOf (P : Program) (w : Waiting) : Type 0 where
  pub frame : IsFrameOf P w.function w.label w.regs
  pub dest_within : w.dest.0 < reg_count P w.function

pub record StackFits (P : Program) (s : Stack) : Type 0 where
  pub top : IsFrameOf P s.top.function s.top.label s.top.regs
  pub waiting : All (IsWaitingOf P) s.waiting

abbrev pub Fits : Program → Config → Type 0
Fits P c = StackFits P c.stack

-- A turn leads somewhere, and where it goes on the configuration fits.
abbrev pub FitsAfter : Program → Outcome → Type 0
FitsAfter P (Goes printed c) = Fits P c
FitsAfter P (Ends end) = ⊤
FitsAfter P Stuck = ⊥
