-- Parts and reports stay the same when code is added.
use Rattle.std.specs.Prelude.{List}
use Rattle.cj_ir.specs.declared.language.Program.{Program}
use Rattle.cj_base.specs.Run.{Begun}
use Rattle.cj_calls.specs.declared.report.Report.{Report}
use Rattle.cj_machine.specs.Versions.{Codes}
use Rattle.cj_machine.specs.CodeMaps.{Grows}
use Rattle.cj_profile.specs.declared.view.Read.{Read}
use Rattle.cj_parts.specs.PartsLaws.{parts_weaker}
use Rattle.cj_parts.specs.Calls.{IsV}
use Rattle.cj_parts.proofs.Growth.{zip_weaker, v_grows, call_grows}
use Rattle.cj_records.specs.Items.{Item, OfSetup, OfWarm, OfCall, OfWork, IsPart, ReadsInParts}
use Rattle.cj_records.specs.Versions.{AreV}

module _ (P : Program) (codes later : Codes) (g : Grows codes later) where
  pub part_grows : (i : Item) (rs : List Read) → IsPart P codes i rs → IsPart P later i rs
  part_grows (OfSetup s) rs h = h
  part_grows (OfWarm n) rs h = h
  part_grows (OfCall call r) rs h = call_grows P codes later g call r rs h
  part_grows (OfWork n) rs h = h

  pub in_parts_grows : (is : List Item) (rs : List Read) → ReadsInParts P codes is rs → ReadsInParts P later is rs
  in_parts_grows is rs h = parts_weaker (IsPart P codes) (IsPart P later) part_grows is rs h

  pub are_v_grow : (calls : List Begun) (reports : List Report) → AreV P codes calls reports → AreV P later calls reports
  are_v_grow calls reports h = zip_weaker (IsV P codes) (IsV P later) (v_grows P codes later g) calls reports h
