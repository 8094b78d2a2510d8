-- What is told of a play.
use Rattle.std.specs.Prelude.{◌≡◌, ℕ, ◌≤◌, List, Some}
use Rattle.std.specs.List.{AllZip, AllPairs}
use Rattle.cj_ir.specs.declared.language.Program.{Program}
use Rattle.cj_ir.specs.declared.script.ScriptCall.{ScriptCall}
use Rattle.cj_base.specs.Run.{begun}
use Rattle.cj_calls.specs.declared.report.Look.{Look}
use Rattle.cj_calls.specs.declared.report.Report.{Report}
use Rattle.cj_calls.specs.Reports.{ReportStands, IsWhole}
use Rattle.cj_machine.specs.Versions.{Codes}
use Rattle.cj_machine.specs.VersionRuns.{version_report, report_at}
use Rattle.cj_machine.specs.CodeMaps.{SoundCodes}
use Rattle.cj_events.specs.declared.events.Event.{Event}
use Rattle.cj_world.specs.declared.played.Played.{Played}
use Rattle.cj_world.specs.Worlds.{Run, World, codes_in}
use Rattle.cj_world.specs.Plays.{PlaysTo, calls_of}

-- the report is read off where the run is
abbrev pub IsReadOff : Run → Report → Type 0
IsReadOff run r = report_at run.looks run.progress ≡ Some r

-- the answer tells what the world has
pub record Tells (w : World) (played : Played) : Type 0 where
  pub reports : AllZip IsReadOff w.runs played.reports
  pub compiled : played.compiled ≡ w.compiled
  pub skips : played.skips ≡ w.skips

-- The report is the versioned run's over its looks and over those codes, and it agrees with the base run.
pub record IsReportOf (P : Program) (codes : Codes) (call : ScriptCall) (r : Report) : Type 0 where
  pub run : version_report P codes r.looks (begun call) ≡ Some r
  pub headline : ReportStands P (begun call) r
  pub whole : IsWhole P (begun call) r

-- no look finds an older version of its function than an earlier look did
abbrev pub NeverFall : List Look → Type 0
NeverFall looks = AllPairs (λ earlier later. earlier.function ≡ later.function → earlier.offset ≤ later.offset) looks

-- The answer is that of the play of the events, in a table of so many words.
pub record IsPlay (P : Program) (words : ℕ) (events : List Event) (played : Played) : Type 0 where
  pub world : World
  pub plays : PlaysTo P words events world
  pub tells : Tells world played
  -- the versions are sound, and there is one report for each run that began, in order
  pub sound : SoundCodes P (codes_in world.made)
  pub headline : AllZip (IsReportOf P (codes_in world.made)) (calls_of events) played.reports
  -- over all runs, in the order of time
  pub looks : NeverFall world.trail
