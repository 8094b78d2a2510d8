-- What is read off a list of activations, and how it changes.
use Rattle.std.specs.Prelude.{ℕ, List, [], ◌∷◌, ◌++◌, ◌<◌, length, map, Option, Some, None, ℤ, slice_set}
use Rattle.cj_ir.specs.declared.language.Label.{Label}
use Rattle.cj_ir.specs.declared.language.Reg.{Reg}
use Rattle.cj_base.specs.declared.machine.Frame.{Frame}
use Rattle.cj_base.specs.declared.machine.Waiting.{Waiting}
use Rattle.cj_base.specs.Machine.{entry_regs, waits}
use Rattle.cj_activations.specs.declared.windows.Position.{Position}
use Rattle.cj_activations.specs.declared.windows.Position.TheVariants.{Base, Version}
use Rattle.cj_activations.specs.declared.windows.Waits.{Waits}
use Rattle.cj_activations.specs.declared.windows.Waits.TheVariants as waits
use Rattle.cj_activations.specs.Activations.{Active, InBase, InVersion, Paused, BaseWaits, VersionWaits, Stacked}
use Rattle.cj_activations.specs.Windows.{active_at}

-- Activations, read.

unfoldable pub active_regs : Active → List ℤ
active_regs (InBase frame) = frame.regs
active_regs (InVersion frame) = frame.regs

unfoldable pub paused_regs : Paused → List ℤ
paused_regs (BaseWaits frame) = frame.regs
paused_regs (VersionWaits frame) = frame.regs

unfoldable pub position_of : Active → Position
position_of (InBase frame) = Base frame.function frame.label
position_of (InVersion frame) = Version frame.function frame.offset frame.label

-- how an activation waits
unfoldable pub waits_of : Paused → Waits
waits_of (BaseWaits frame) = waits.Base frame.label frame.dest
waits_of (VersionWaits frame) = waits.Version frame.function frame.offset frame.label

-- how the innermost of them waits, if there is one
unfoldable pub innermost : List Paused → Option Waits
innermost [] = None
innermost (paused ∷ others) = Some (waits_of paused)

-- the innermost of them has that register
abbrev pub HasDest : Reg → List Paused → Type 0
HasDest dest [] = ⊥
HasDest dest (paused ∷ others) = dest.0 < length (paused_regs paused)

-- the registers of those that wait, the outermost first
unfoldable pub waiting_registers : List Paused → List ℤ
waiting_registers [] = []
waiting_registers (paused ∷ others) = waiting_registers others ++ paused_regs paused

-- all registers, those of the outermost activation first
unfoldable pub all_registers : Stacked → List ℤ
all_registers s = waiting_registers s.waiting ++ active_regs s.top

-- Activations, changed.

unfoldable pub with_label : Active → Label → Active
with_label (InBase frame) next = InBase (record frame { label = next })
with_label (InVersion frame) next = InVersion (record frame { label = next })

unfoldable pub with_regs : Active → List ℤ → Active
with_regs (InBase frame) regs = InBase (record frame { regs = regs })
with_regs (InVersion frame) regs = InVersion (record frame { regs = regs })

-- The one that runs waits for a call's value: a base frame at the label after its call, a version at its call.
unfoldable pub paused : Active → Reg → Label → Paused
paused (InBase frame) dest next = BaseWaits (waits frame next dest)
paused (InVersion frame) dest next = VersionWaits frame

-- one that waits goes on at a label, with a value in a register
unfoldable pub resumed : Paused → Reg → Label → ℤ → Active
resumed (BaseWaits frame) dest next v =
    InBase (record { function = frame.function; label = next; regs = slice_set frame.regs dest.0 v })
resumed (VersionWaits frame) dest next v =
    InVersion (record frame { label = next; regs = slice_set frame.regs dest.0 v })

-- The top is entered at a position, with the arguments in its first registers and 0 in all others.
unfoldable pub entered : Position → ℕ → List ℤ → List Paused → Stacked
entered position count args waiting = record { top = active_at position (entry_regs count args); waiting = waiting }

-- a call: the top waits for its value, and an activation is entered
unfoldable pub called : Stacked → Reg → Label → Position → ℕ → List ℤ → Stacked
called s dest next position count args = entered position count args (paused s.top dest next ∷ s.waiting)

unfoldable pub returned_to : List Paused → Stacked → Reg → Label → ℤ → Stacked
returned_to [] s dest next v = s
returned_to (innermost ∷ others) s dest next v =
    record { top = resumed innermost dest next v; waiting = others }

-- a return: the top is gone, and the innermost of those that wait goes on with the value
unfoldable pub returned : Stacked → Reg → Label → ℤ → Stacked
returned s dest next v = returned_to s.waiting s dest next v

-- a rebuild: base frames stand in place of the top
unfoldable pub rebuilt : Stacked → Frame → List Waiting → Stacked
rebuilt s top waiting = record { top = InBase top; waiting = map BaseWaits waiting ++ s.waiting }
