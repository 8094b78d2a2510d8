-- What a play needs of events: that each of them can happen behind the earlier ones.
use Rattle.std.specs.Prelude.{ℕ, zero, ◌+◌, ◌<◌, ◌≤◌, List, [], ◌∷◌, length, ⊤}
use Rattle.cj_ir.specs.WellFormed.{Takes}
use Rattle.cj_ir.specs.declared.language.Function.{Function}
use Rattle.cj_ir.specs.declared.language.Program.{Program}
use Rattle.cj_ir.specs.declared.script.ScriptCall.{ScriptCall}
use Rattle.cj_events.specs.declared.events.Event.{Event}
use Rattle.cj_events.specs.declared.events.Event.TheVariants.{Begin, Step, Compile}
use Rattle.cj_events.specs.Tallies.{begun_by}

-- the call is of a function that exists, with as many arguments as it takes, and with a limit that a run may have
pub record CanBegin (functions : List Function) (call : ScriptCall) : Type 0 where
  pub takes : Takes functions call.function (length call.args)
  pub some_turn : 1 ≤ call.limit
  pub few_turns : call.limit ≤ 1000000

-- An event, where so many runs have begun before it. Passes may name whatever they like.
abbrev pub CanHappen : List Function → ℕ → Event → Type 0
CanHappen functions begun (Begin call) = CanBegin functions call
CanHappen functions begun (Step run count) = (1 ≤ run) × (run ≤ begun)
CanHappen functions begun (Compile function passes) = function.0 < length functions

-- each event, behind the earlier ones, of which so many are beginnings
abbrev pub EachCanHappen : List Function → ℕ → List Event → Type 0
EachCanHappen functions begun [] = ⊤
EachCanHappen functions begun (event ∷ events) =
    CanHappen functions begun event × EachCanHappen functions (begun + begun_by event) events

-- they can happen, one after the other, to a program of which no run has begun
abbrev pub CanPlay : Program → List Event → Type 0
CanPlay p events = EachCanHappen p.functions 0 events
