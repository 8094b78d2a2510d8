-- What the code's turn answers and leaves, by the outcome of the base turn.
use Rattle.std.specs.Prelude.{◌≡◌, List, [], ◌++◌, Option, Some, None, ℤ, ⊤}
use Rattle.cj_ir.specs.declared.language.Program.{Program}
use Rattle.cj_ir.specs.declared.language.Instr.{Instr}
use Rattle.cj_ir.specs.declared.language.Instr.TheVariants.{Call, Print}
use Rattle.cj_base.specs.declared.machine.Turned.{Turned}
use Rattle.cj_base.specs.declared.machine.Turned.TheVariants.{Running, Ended}
use Rattle.cj_base.specs.declared.machine.Config as code
use Rattle.cj_base.specs.Machine.{Config, config_of, Effect, turn_by, Outcome, Goes, Ends, Stuck}

abbrev pub answer_of : Outcome → Option Turned
answer_of (Goes printed c) = Some Running
answer_of (Ends end) = Some (Ended end)
answer_of Stuck = None

-- a turn that ends the run leaves the configuration as it was
abbrev pub config_after : Outcome → Config → Config
config_after (Goes printed c) old = c
config_after (Ends end) old = old
config_after Stuck old = old

abbrev pub printed_by : Outcome → List ℤ
printed_by (Goes printed c) = printed
printed_by (Ends end) = []
printed_by Stuck = []

-- a call or a print, whose turns alone take memory
abbrev pub TakesMemory : Option Instr → Type 0
TakesMemory (Some (Call dest f args next)) = ⊤
TakesMemory (Some (Print value next)) = ⊤
TakesMemory instr = ⊥

-- a turn was made: its answer, and the configuration and the prints before and after it
pub record Makes (turn : Outcome) (answer : Turned) (old new : Config) (printed now_printed : List ℤ) : Type 0 where
  pub answers : answer_of turn ≡ Some answer
  pub leaves : new ≡ config_after turn old
  pub prints : now_printed ≡ printed ++ printed_by turn

-- the turn with this effect was made of a configuration of the code
abbrev pub CarriesOut : Program → Effect → Turned → code.Config → code.Config → List ℤ → List ℤ → Type 0
CarriesOut P e answer old new printed now_printed =
    Makes (turn_by P e (config_of old).stack old.memory) answer (config_of old) (config_of new) printed now_printed
