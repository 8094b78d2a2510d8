-- Runs over base bodies alone.
use Rattle.std.proofs.Common.{◌≡◌, ℕ, List}
use Rattle.cj_ir.specs.declared.language.Program.{Program}
use Rattle.cj_base.specs.Run.{Begun}
use Rattle.cj_calls.specs.declared.report.Look.{Look}
use Rattle.cj_machine.specs.Versions.{State}
use Rattle.cj_machine.specs.CallRuns.{IsRun}
use Rattle.cj_machine.specs.CodeMaps.{no_codes}

-- the run of some call with this limit goes on
pub record Walks (P : Program) (looks : List Look) (limit : ℕ) (s : State) : Type 0 where
  pub call : Begun
  pub same : call.limit ≡ limit
  pub run : IsRun P no_codes looks call s
