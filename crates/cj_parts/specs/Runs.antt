-- What a session's call does to the views of its seats.
use Rattle.std.specs.Prelude.{◌≡◌, true, List, [], ◌++◌, map, All}
use Rattle.cj_ir.specs.declared.language.Program.{Program}
use Rattle.cj_base.specs.Run.{Begun}
use Rattle.cj_calls.specs.declared.report.Look.{Look}
use Rattle.cj_calls.specs.declared.report.Report.{Report}
use Rattle.cj_machine.specs.Versions.{Codes}
use Rattle.cj_engine.specs.Stopped.{Stopped}
use Rattle.cj_profile.specs.declared.view.Read.{Read}
use Rattle.cj_publish.specs.declared.view.View.{View}
use Rattle.cj_publish.specs.Learns.{Learns}
use Rattle.cj_publish.specs.Seen.{SeesNoMore}
use Rattle.cj_parts.specs.Parts.{InParts, MarkPart}
use Rattle.cj_parts.specs.Known.{known_codes}
use Rattle.cj_parts.specs.Looks.{looked, IsNotOlder, FoundIn}
use Rattle.cj_parts.specs.Calls.{Stands, CallPart, GainsPart}

-- what a run finds at the only seat that there ever was, which stays the only one: nothing new
pub record FindsNothingNew (looks : List Look) (v w : View) : Type 0 where
  pub sole : w.sole ≡ true
  pub seen : SeesNoMore v w
  pub found : All (FoundIn v) looks

-- a session has run the call, over the versions that its seat has read whole
pub record Ran (P : Program) (call : Begun) (r : Report) (v w : View) (old new : List Read) : Type 0 where
  pub learns : Learns v w
  pub claim : w.claim ≡ v.claim
  pub taken : w.taken ≡ v.taken
  pub outcomes : w.outcomes ≡ v.outcomes
  pub joined : w.joined ≡ v.joined
  pub trail : w.lookups ≡ v.lookups ++ map looked r.looks
  pub floor : All (IsNotOlder v) r.looks
  pub alone : v.sole ≡ true → FindsNothingNew r.looks v w
  pub stands : Stands P call r
  pub reads : GainsPart (CallPart P (known_codes w) call r) old new

-- the reads are in parts over marks with which the call stopped where it found no memory, over these looks
abbrev pub StoppedPart : Program → Codes → Begun → List Look → List Read → Type 0
StoppedPart P codes call looks rs = Stopped P (λ marks. InParts MarkPart marks rs) codes [] looks call

-- Memory ran out while a session ran the call. What it looked up and counted is that of a beginning of the run, over the
-- versions that its seat has read whole.
pub record RanOut (P : Program) (call : Begun) (v w : View) (old new : List Read) : Type 0 where
  pub learns : Learns v w
  pub claim : w.claim ≡ v.claim
  pub taken : w.taken ≡ v.taken
  pub outcomes : w.outcomes ≡ v.outcomes
  pub joined : w.joined ≡ v.joined
  pub looks : List Look
  pub trail : w.lookups ≡ v.lookups ++ map looked looks
  pub floor : All (IsNotOlder v) looks
  pub alone : v.sole ≡ true → FindsNothingNew looks v w
  pub reads : GainsPart (StoppedPart P (known_codes w) call looks) old new
