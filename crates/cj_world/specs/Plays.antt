-- The play of events: what each of them does to the world, one after the other.
use Rattle.std.specs.Prelude.{◌≡◌, ℕ, ◌-◌, List, [], ◌∷◌, length}
use Rattle.cj_ir.specs.declared.language.Program.{Program}
use Rattle.cj_ir.specs.declared.script.ScriptCall.{ScriptCall}
use Rattle.cj_base.specs.Run.{begun}
use Rattle.cj_draft.specs.declared.code.Code.{Code}
use Rattle.cj_draft.specs.declared.passes.Skipped.{Skipped}
use Rattle.cj_events.specs.declared.events.Event.{Event}
use Rattle.cj_events.specs.declared.events.Event.TheVariants.{Begin, Step, Compile}
use Rattle.cj_passes.specs.Pipeline.{IsPipeline}
use Rattle.cj_world.specs.Worlds.{World, first_world, begins, steps, compiles, finished}

-- What an event does, where the table has so many words. Runs count from 1.
abbrev pub Happens : Program → ℕ → Event → World → World → Type 0
Happens P words (Begin call) before after = after ≡ begins P (begun call) before
Happens P words (Step run count) before after = after ≡ steps P (run - 1) count before
Happens P words (Compile f passes) before after =
    (code : Code) × (skips : List (ℕ × Skipped)) × IsPipeline P f passes code skips × (after ≡ compiles words code skips before)

-- one event after the other
abbrev pub AllHappen : Program → ℕ → List Event → World → World → Type 0
AllHappen P words [] before after = after ≡ before
AllHappen P words (event ∷ events) before after =
    (between : World) × Happens P words event before between × AllHappen P words events between after

-- All events happen, one after the other, and then each run goes on to its end, in order.
pub record PlaysTo (P : Program) (words : ℕ) (events : List Event) (after : World) : Type 0 where
  pub last : World
  pub happened : AllHappen P words events (first_world P) last
  pub ended : after ≡ finished P (length last.runs) last

-- the calls whose runs begin
unfoldable pub calls_of : List Event → List ScriptCall
calls_of [] = []
calls_of (Begin call ∷ events) = call ∷ calls_of events
calls_of (Step run count ∷ events) = calls_of events
calls_of (Compile f passes ∷ events) = calls_of events
