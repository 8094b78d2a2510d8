-- Events fit a program: all that they name exists there, and their numbers are within their limits.
use Rattle.std.specs.Prelude.{ℕ, ◌<◌, ◌≤◌, List, [], ◌∷◌, ◌++◌, length, All, ⊤}
use Rattle.cj_ir.specs.declared.language.Function.{Function}
use Rattle.cj_ir.specs.declared.language.Guard.{Guard}
use Rattle.cj_ir.specs.declared.language.Guard.TheVariants.{Is, Never}
use Rattle.cj_ir.specs.declared.language.Label.{Label}
use Rattle.cj_ir.specs.declared.language.Program.{Program}
use Rattle.cj_draft.specs.declared.passes.Pass.{Pass}
use Rattle.cj_draft.specs.declared.passes.Pass.TheVariants.{Anchors, Assume, Delay, Const, Inline}
use Rattle.cj_script.specs.Fitting.{FitsCall}
use Rattle.cj_events.specs.declared.events.Event.{Event}
use Rattle.cj_events.specs.declared.events.Event.TheVariants.{Begin, Step, Compile}
use Rattle.cj_events.specs.Tallies.{runs, limits, counts, compiles}
use Rattle.cj_events.specs.declared.limits.TheConstants.{MAX_EVENTS, MAX_LISTED, MAX_PASSES}

abbrev pub FitsLabel : Label → Type 0
FitsLabel label = label.0 ≤ 511

abbrev pub FitsLabels : List Label → Type 0
FitsLabels labels = (1 ≤ length labels) × (length labels ≤ MAX_LISTED) × All FitsLabel labels

abbrev pub FitsGuard : Guard → Type 0
FitsGuard (Is reg value) = reg.0 ≤ 127
FitsGuard Never = ⊤

abbrev pub FitsGuards : List Guard → Type 0
FitsGuards guards = (1 ≤ length guards) × (length guards ≤ 8) × All FitsGuard guards

abbrev pub FitsPass : Pass → Type 0
FitsPass (Anchors places) = FitsLabels places
FitsPass (Assume anchor guards) = FitsLabel anchor × FitsGuards guards
FitsPass (Delay path guards) = FitsLabels path × FitsGuards guards
FitsPass Const = ⊤
FitsPass (Inline call) = FitsLabel call

-- an event, where so many runs have begun before it
abbrev pub FitsEvent : List Function → ℕ → Event → Type 0
FitsEvent functions begun (Begin call) = FitsCall functions call
FitsEvent functions begun (Step run count) = (1 ≤ run) × (run ≤ begun) × (1 ≤ count) × (count ≤ 1000000)
FitsEvent functions begun (Compile function passes) =
    (function.0 < length functions) × (length passes ≤ MAX_PASSES) × All FitsPass passes

-- each event, behind the earlier ones
abbrev pub EachFits : List Function → List Event → List Event → Type 0
EachFits functions earlier [] = ⊤
EachFits functions earlier (event ∷ events) =
    FitsEvent functions (runs earlier) event × EachFits functions (earlier ++ event ∷ []) events

pub record FitsEvents (p : Program) (events : List Event) : Type 0 where
  pub each : EachFits p.functions [] events
  pub few_runs : runs events ≤ MAX_EVENTS
  pub few_turns : limits events ≤ 4000000
  pub few_steps : counts events ≤ 4000000
  pub few_compiles : compiles events ≤ MAX_EVENTS
