-- The registers of all activations in one list of values, cut into windows.
use Rattle.std.specs.Prelude.{◌≡◌, ◌≤◌, List, [], ◌∷◌, ◌++◌, length, take, drop, map, reverse, ℤ}
use Rattle.cj_ir.specs.declared.language.Label.{Label}
use Rattle.cj_ir.specs.declared.language.Reg.{Reg}
use Rattle.cj_base.specs.declared.machine.Frame.{Frame}
use Rattle.cj_base.specs.declared.machine.Waiting.{Waiting}
use Rattle.cj_activations.specs.declared.windows.Position.{Position}
use Rattle.cj_activations.specs.declared.windows.Position.TheVariants.{Base, Version}
use Rattle.cj_activations.specs.declared.windows.Window.{Window}
use Rattle.cj_activations.specs.declared.windows.Body.{Body}
use Rattle.cj_activations.specs.declared.windows.Body.TheVariants as body
use Rattle.cj_activations.specs.Activations.{Active, InBase, InVersion, Paused, BaseWaits, VersionWaits, Stacked}

-- where a body stands at a label
unfoldable pub position_at : Body → Label → Position
position_at (body.Base f) label = Base f label
position_at (body.Version f offset) label = Version f offset label

abbrev pub position_in : Window → Position
position_in w = position_at w.body w.label

-- an activation that runs at a position, over these registers
unfoldable pub active_at : Position → List ℤ → Active
active_at (Base f label) regs = InBase (record { function = f; label = label; regs = regs })
active_at (Version f offset label) regs =
    InVersion (record { function = f; offset = offset; label = label; regs = regs })

-- the activation of a window that waits, over these registers
unfoldable pub paused_by : Window → Position → List ℤ → Paused
paused_by w (Base f label) regs =
    BaseWaits (record { function = f; label = label; regs = regs; dest = w.dest })
paused_by w (Version f offset label) regs =
    VersionWaits (record { function = f; offset = offset; label = label; regs = regs })

-- The activations of windows that cut a list of values. The last window comes first, and each goes from its start to
-- the start of the one before it here, the first to the end of the values.
unfoldable pub paused_in : List ℤ → List Window → List Paused
paused_in values [] = []
paused_in values (w ∷ ws) =
    paused_by w (position_in w) (drop w.start values) ∷ paused_in (take w.start values) ws

-- the activations of windows of which the first runs
unfoldable pub stacked_in : List ℤ → Window → List Window → Stacked
stacked_in values top waiting = record {
  top = active_at (position_in top) (drop top.start values);
  waiting = paused_in (take top.start values) waiting;
}

-- the windows cut the whole list
abbrev pub AreTiled : List ℤ → List Window → Type 0
AreTiled values [] = values ≡ []
AreTiled values (w ∷ ws) = (w.start ≤ length values) × AreTiled (take w.start values) ws

-- Windows, changed.

-- the window of an activation that waits for a call's value
unfoldable pub waiting_window : Window → Position → Reg → Label → Window
waiting_window w (Base f label) dest next = record w { label = next; dest = dest }
waiting_window w (Version f offset label) dest next = w

-- a list is another with items behind it
pub record Extends {A : Type 0} (old new : List A) : Type 0 where
  pub rest : List A
  pub is : new ≡ old ++ rest

-- Windows further on that cut off the registers of base frames that wait, given innermost first.
pub record Pushes (frames : List Waiting) (old_windows new_windows : List Window) (old_values new_values : List ℤ) : Type 0 where
  pub waits : paused_in new_values (reverse new_windows) ≡ map BaseWaits frames ++ paused_in old_values (reverse old_windows)
  pub tiled : AreTiled old_values (reverse old_windows) → AreTiled new_values (reverse new_windows)

-- Windows further on of base frames that wait, given innermost first, and a last one of a frame that runs.
pub record Writes (top : Frame) (waiting : List Waiting) (window : Window) (old_windows new_windows : List Window)
    (old_values new_values : List ℤ) : Type 0 where
  pub stacked : stacked_in new_values window (reverse new_windows)
      ≡ record { top = InBase top; waiting = map BaseWaits waiting ++ paused_in old_values (reverse old_windows) }
  pub tiled : AreTiled old_values (reverse old_windows) → AreTiled new_values (window ∷ reverse new_windows)
