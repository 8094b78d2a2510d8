-- The report of a run that has ended or has reached its limit.
use Rattle.std.proofs.Common.{◌≡◌, refl, List, length, Option, Some, None}
use Rattle.cj_ir.specs.declared.language.Program.{Program}
use Rattle.cj_base.specs.declared.machine.End.{End}
use Rattle.cj_base.specs.declared.machine.End.TheVariants.{TurnLimit}
use Rattle.cj_base.specs.Run.{Begun}
use Rattle.cj_calls.specs.declared.report.Look.{Look}
use Rattle.cj_machine.specs.Versions.{State, Codes}
use Rattle.cj_machine.specs.VersionRuns.{report_of, report_at, version_report}
use Rattle.cj_machine.specs.CallRuns.{IsRun}
use Rattle.cj_machine.proofs.Runs.{used_whole}
use Rattle.cj_world.specs.Running.{progress_by, end_answered, IsAt}

pub read_at : (looks : List Look) (o : Option End) (s : State) → s.entries ≡ length looks →
    report_at looks (progress_by o s) ≡ Some (report_of looks (end_answered o) s)
unfolding progress_by end_answered report_at
read_at looks None s used = used_whole looks TurnLimit s used
read_at looks (Some end) s used = used_whole looks end s used

-- the law on runs that reached their limits
abbrev pub LimitReports : Type 0
LimitReports =
    (P : Program) (codes : Codes) (looks : List Look) (call : Begun) (s : State) →
    IsRun P codes looks call s → s.turns ≡ call.limit → version_report P codes looks call ≡ Some (report_of looks TurnLimit s)

pub told_whole : LimitReports → (P : Program) (codes : Codes) (looks : List Look) (call : Begun) (o : Option End) (s : State) → IsAt P codes looks call o s →
    (o ≡ None → s.turns ≡ call.limit) → version_report P codes looks call ≡ Some (report_of looks (end_answered o) s)
unfolding end_answered
told_whole law P codes looks call None s at through = law P codes looks call s at (through refl)
told_whole law P codes looks call (Some end) s at through = at
