-- A run's reads in parts: one part each of its setups, `warm` lines, calls and works.
use Rattle.std.specs.Prelude.{List, ◌++◌, map}
use Rattle.cj_ir.specs.declared.language.Program.{Program}
use Rattle.cj_ir.specs.declared.script.Setup.{Setup}
use Rattle.cj_base.specs.Run.{Begun}
use Rattle.cj_calls.specs.declared.report.Report.{Report}
use Rattle.cj_machine.specs.Versions.{Codes}
use Rattle.cj_profile.specs.declared.view.Read.{Read}
use Rattle.cj_notes.specs.declared.notes.WorkNote.{WorkNote}
use Rattle.cj_notes.specs.JobParts.{WarmPart, WorkPart}
use Rattle.cj_parts.specs.Parts.{InParts}
use Rattle.cj_parts.specs.Calls.{CallPart}
use Rattle.cj_records.specs.Setups.{SetupPart}

pub data Item : Type 0 where
  OfSetup : Setup → Item
  OfWarm : WorkNote → Item
  OfCall : Begun → Report → Item
  OfWork : WorkNote → Item

abbrev pub IsPart : Program → Codes → Item → List Read → Type 0
IsPart P codes (OfSetup s) rs = SetupPart s rs
IsPart P codes (OfWarm note) rs = WarmPart P note rs
IsPart P codes (OfCall call r) rs = CallPart P codes call r rs
IsPart P codes (OfWork note) rs = WorkPart P note rs

abbrev pub ReadsInParts : Program → Codes → List Item → List Read → Type 0
ReadsInParts P codes items rs = InParts (IsPart P codes) items rs

-- the hints of a script, and then its `warm` lines
unfoldable pub setup_items : List Setup → List WorkNote → List Item
setup_items setups warm = map OfSetup setups ++ map OfWarm warm
