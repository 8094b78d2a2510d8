-- The base frames that a point stands for.
use Rattle.std.specs.Prelude.{ℕ, List, [], ◌∷◌, map, All, ℤ}
use Rattle.cj_ir.specs.Values.{operand_value, IsOperandWithin}
use Rattle.cj_ir.specs.declared.language.Program.{Program}
use Rattle.cj_base.specs.declared.machine.Frame.{Frame}
use Rattle.cj_base.specs.declared.machine.Waiting.{Waiting}
use Rattle.cj_base.specs.Machine.{Stack}
use Rattle.cj_draft.specs.declared.points.PointFrame.{PointFrame}
use Rattle.cj_draft.specs.declared.points.Point.{Point}

-- the registers of a frame: the operands of its map, read in the version's registers
unfoldable pub frame_regs : Program → List ℤ → PointFrame → List ℤ
frame_regs P regs f = map (operand_value regs) f.map

unfoldable pub top_of : Program → List ℤ → PointFrame → Frame
top_of P regs f = record { function = f.function; label = f.label; regs = frame_regs P regs f }

unfoldable pub waiting_of : Program → List ℤ → PointFrame → Waiting
waiting_of P regs f = record { function = f.function; label = f.label; regs = frame_regs P regs f; dest = f.dest }

-- of no frames this is no stack of a program, and no point of a sound code is without frames
unfoldable pub stack_of : Program → List PointFrame → List ℤ → Stack
stack_of P [] regs =
    record { top = record { function = record { 0 = 0 }; label = record { 0 = 0 }; regs = [] }; waiting = [] }
stack_of P (first ∷ others) regs = record { top = top_of P regs first; waiting = map (waiting_of P regs) others }

-- the base frames of a point over a version's registers
unfoldable pub frames_of : Program → Point → List ℤ → Stack
frames_of P point regs = stack_of P point.frames regs

-- the maps read registers below the count
abbrev pub IsPointWithin : ℕ → Point → Type 0
IsPointWithin count point = All (λ f. All (IsOperandWithin count) f.map) point.frames

-- the frames that the code gives, as a stack
abbrev pub made_stack : Frame × List Waiting → Stack
made_stack frames = record { top = frames.0; waiting = frames.1 }
