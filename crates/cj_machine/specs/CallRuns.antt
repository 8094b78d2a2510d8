-- The run of a call: under way, in a state, and over.
use Rattle.std.specs.Prelude.{◌≡◌, ◌<◌, ◌≤◌, List, length, Some}
use Rattle.cj_ir.specs.WellFormed.{Takes}
use Rattle.cj_ir.specs.declared.language.Program.{Program}
use Rattle.cj_base.specs.declared.machine.End.{End}
use Rattle.cj_base.specs.declared.machine.Turned.{Turned}
use Rattle.cj_base.specs.declared.machine.Turned.TheVariants.{Running, Ended}
use Rattle.cj_base.specs.Run.{Begun}
use Rattle.cj_calls.specs.declared.report.Look.{Look}
use Rattle.cj_machine.specs.Versions.{State, Codes, Continues}
use Rattle.cj_machine.specs.VersionRuns.{version_run, report_of, version_report}
use Rattle.cj_machine.specs.Memories.{base_memory, version_memory}
use Rattle.cj_machine.specs.Stands.{Stands}

-- The state stands for the base run of some call, whose limit is not reached.
pub record IsUnderWay (P : Program) (codes : Codes) (s : State) : Type 0 where
  pub call : Begun
  pub takes : Takes P.functions call.function (length call.args)
  pub stands : Stands P codes call s
  pub before : s.turns < call.limit
  pub limit : call.limit ≤ 1000000

-- The run of the call over these looks goes on in this state, which used them all, within the call's limit.
pub record IsRun (P : Program) (codes : Codes) (looks : List Look) (call : Begun) (s : State) : Type 0 where
  pub takes : Takes P.functions call.function (length call.args)
  pub run : version_run P codes looks call s.turns ≡ Continues s
  pub used : s.entries ≡ length looks
  pub stands : Stands P codes call s
  pub within : s.turns ≤ call.limit
  pub limit : call.limit ≤ 1000000

-- The call's run has ended in this state: its report is read off it, and its memory is that of the base run at its end.
pub record HasFinished (P : Program) (codes : Codes) (looks : List Look) (call : Begun) (end : End) (s : State) : Type 0 where
  pub report : version_report P codes looks call ≡ Some (report_of looks end s)
  pub memory : version_memory P codes looks call ≡ Some s.memory
  pub agrees : s.memory ≡ base_memory P call s.base_turns

-- what turns of the call's run leave by their answer: the run goes on in this state, or has ended in it
abbrev pub RunGoes : Program → Codes → List Look → Begun → Turned → State → Type 0
RunGoes P codes looks call Running s = IsRun P codes looks call s
RunGoes P codes looks call (Ended end) s = HasFinished P codes looks call end s
