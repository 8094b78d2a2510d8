-- Activations: what a run of base bodies and versions has on its stack.
use Rattle.std.specs.Prelude.{ℕ, ℤ, List}
use Rattle.cj_ir.specs.declared.language.FunId.{FunId}
use Rattle.cj_ir.specs.declared.language.Label.{Label}
use Rattle.cj_base.specs.declared.machine.Frame.{Frame}
use Rattle.cj_base.specs.declared.machine.Waiting.{Waiting}

-- a version of a function, by its offset, at one of its labels, with one value for each of its registers
pub record VersionFrame : Type 0 where
  pub function : FunId
  pub offset : ℕ
  pub label : Label
  pub regs : List ℤ

-- the activation that runs
pub data Active : Type 0 where
  InBase : Frame → Active
  InVersion : VersionFrame → Active

-- An activation that waits for a call's value. A base frame waits at the label after its call, a version at its call.
pub data Paused : Type 0 where
  BaseWaits : Waiting → Paused
  VersionWaits : VersionFrame → Paused

-- the one that runs, and those that wait, the innermost first
pub record Stacked : Type 0 where
  pub top : Active
  pub waiting : List Paused
