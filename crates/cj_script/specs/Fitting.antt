-- A script fits a program: all that it names exists there, and its numbers are within their limits.
use Rattle.std.specs.Prelude.{◌≡◌, ℕ, ◌<◌, ◌≤◌, true, List, length, All, Some, slice_get}
use Rattle.std.specs.List.{sum_by}
use Rattle.cj_ir.specs.WellFormed.{Takes}
use Rattle.cj_ir.specs.declared.language.FunId.{FunId}
use Rattle.cj_ir.specs.declared.language.Function.{Function}
use Rattle.cj_ir.specs.declared.language.Label.{Label}
use Rattle.cj_ir.specs.declared.language.Line.{Line}
use Rattle.cj_ir.specs.declared.language.Program.{Program}
use Rattle.cj_ir.specs.declared.script.Script.{Script}
use Rattle.cj_ir.specs.declared.script.ScriptCall.{ScriptCall}
use Rattle.cj_ir.specs.declared.script.Setup.{Setup}
use Rattle.cj_ir.specs.declared.script.Setup.TheVariants.{Guess, Cold, Warm}
use Rattle.cj_script.specs.Meaning.{is_cond}
use Rattle.cj_script.specs.declared.limits.TheConstants.{MAX_CALLS}

-- the function exists, and has that parameter
abbrev pub HasParameter : List Function → FunId → ℕ → Type 0
HasParameter functions id param = (f : Function) × (slice_get functions id.0 ≡ Some f) × (param < f.params)

-- the function exists, and has a `cond` at that label
abbrev pub HasCond : List Function → FunId → Label → Type 0
HasCond functions id label =
    (f : Function) × (line : Line) × (slice_get functions id.0 ≡ Some f) × (slice_get f.code label.0 ≡ Some line) × (is_cond line.instr ≡ true)

abbrev pub FitsSetup : List Function → Setup → Type 0
FitsSetup functions (Guess function param value) = HasParameter functions function param
FitsSetup functions (Cold function label edge) = HasCond functions function label
FitsSetup functions (Warm function level) = (function.0 < length functions) × (1 ≤ level) × (level ≤ 3)

pub record FitsCall (functions : List Function) (call : ScriptCall) : Type 0 where
  pub takes : Takes functions call.function (length call.args)
  pub few_cells : call.cells ≤ 65536
  pub some_turn : 1 ≤ call.limit
  pub few_turns : call.limit ≤ 1000000

pub record FitsScript (p : Program) (s : Script) : Type 0 where
  pub setups : All (FitsSetup p.functions) s.setups
  pub calls : All (FitsCall p.functions) s.calls
  pub few_calls : length s.calls ≤ MAX_CALLS
  pub few_turns : sum_by (λ call. call.limit) s.calls ≤ 4000000
