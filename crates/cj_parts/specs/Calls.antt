-- The part that a call has among the reads of its seat.
use Rattle.std.specs.Prelude.{◌≡◌, List, ◌++◌, Some}
use Rattle.cj_ir.specs.declared.language.Program.{Program}
use Rattle.cj_base.specs.Run.{Begun}
use Rattle.cj_calls.specs.declared.report.Report.{Report}
use Rattle.cj_calls.specs.Reports.{ReportStands, IsWhole}
use Rattle.cj_machine.specs.Versions.{Codes}
use Rattle.cj_machine.specs.VersionRuns.{version_report}
use Rattle.cj_machine.specs.Marks.{run_marks}
use Rattle.cj_profile.specs.declared.view.Read.{Read}
use Rattle.cj_parts.specs.Parts.{InParts, MarkPart}

-- the report is the versioned run's over its own looks
abbrev pub IsV : Program → Codes → Begun → Report → Type 0
IsV P codes call r = version_report P codes r.looks call ≡ Some r

-- the headline for one call: the report stands for the base run, and is whole where the limit is large enough
abbrev pub Stands : Program → Begun → Report → Type 0
Stands P call r = ReportStands P call r × IsWhole P call r

-- The report is V's, and the reads are in parts over the marks of that run.
pub record CallPart (P : Program) (codes : Codes) (call : Begun) (r : Report) (rs : List Read) : Type 0 where
  pub run : IsV P codes call r
  pub reads : InParts MarkPart (run_marks P codes r.looks call call.limit) rs

-- the reads have gained a part
abbrev pub GainsPart : (List Read → Type 0) → List Read → List Read → Type 0
GainsPart IsPart old new = (part : List Read) × IsPart part × (new ≡ old ++ part)
