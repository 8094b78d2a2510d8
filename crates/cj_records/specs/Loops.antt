-- What holds when the setups have acted, and between two calls of a caller.
use Rattle.std.specs.Prelude.{◌≡◌, ℕ, true, List, [], ◌++◌, map, None, All, Contains}
use Rattle.cj_ir.specs.declared.language.Program.{Program}
use Rattle.cj_ir.specs.declared.script.Setup.{Setup}
use Rattle.cj_base.specs.Run.{Begun}
use Rattle.cj_calls.specs.declared.report.Look.{Look}
use Rattle.cj_calls.specs.declared.report.Report.{Report}
use Rattle.cj_machine.specs.CodeMaps.{no_codes}
use Rattle.cj_profile.specs.declared.view.Read.{Read}
use Rattle.cj_profile.specs.Seats as counts
use Rattle.cj_publish.specs.declared.view.View.{View}
use Rattle.cj_publish.specs.Seats.{view_of}
use Rattle.cj_parts.specs.Known.{known_codes}
pub use Rattle.cj_parts.specs.Looks.{IsSeen}
use Rattle.cj_parts.specs.Looks.{looked, looks_of, IsAbove}
use Rattle.cj_parts.specs.Calls.{Stands}
use Rattle.cj_notes.specs.declared.notes.WorkNote.{WorkNote}
use Rattle.cj_notes.specs.Standing.{NotesStand}
use Rattle.cj_records.specs.declared.store.Store.{Store}
use Rattle.cj_records.specs.Notes.{published_by, IsInTime}
use Rattle.cj_records.specs.Setups.{AreWarm}
use Rattle.cj_records.specs.Items.{OfSetup, OfWarm, ReadsInParts}
use Rattle.cj_records.specs.Records.{Answered, call_items}
use Rattle.cj_records.specs.Versions.{IsWholeStore, AloneShows}

-- one of the notes has published each version that the view has seen
abbrev pub SeesPublished : View → List WorkNote → Type 0
SeesPublished v notes = (look : Look) → IsSeen v look → Contains (published_by notes) look

-- the seat is the only one that there ever was: none of its versions came too late, and it has seen no others
pub record WorkedAlone (v : View) (notes : List WorkNote) : Type 0 where
  pub sole : v.sole ≡ true
  pub in_time : All IsInTime notes
  pub seen : SeesPublished v notes

-- the hints of all setups are set, and the `warm` lines among these are compiled
pub record SetupsActed (P : Program) (setups begun : List Setup) (warm : List WorkNote) (v : View) (reads : List Read) : Type 0 where
  pub are_warm : AreWarm begun warm
  pub notes : NotesStand P v warm
  pub lookups : v.lookups ≡ []
  pub in_parts : ReadsInParts P no_codes (map OfSetup setups ++ map OfWarm warm) reads

-- so they are at the only seat that there ever was
pub record Prepared (P : Program) (setups begun : List Setup) (warm : List WorkNote) (v : View) (reads : List Read) : Type 0 where
  pub acted : SetupsActed P setups begun warm v reads
  pub alone : WorkedAlone v warm

-- A store whose setups have acted: no seats but its two ever were, and no words are claimed.
pub record IsPrepared (P : Program) (size : ℕ) (setups : List Setup) (warm : List WorkNote) (s : Store) : Type 0 where
  pub store : IsWholeStore 0 size P s
  pub profile_sole : counts.IsSole s.profile_seat
  pub free : (view_of s.code_seat).claim ≡ None
  pub prepared : Prepared P setups setups warm (view_of s.code_seat) (counts.reads_of s.profile_seat)

-- the calls so far on one thread, each with its work
pub record RoundsShow (P : Program) (setups : List Setup) (calls : List Begun) (reports : List Report) (work : List WorkNote) (v : View)
    (reads : List Read) : Type 0 where
  pub alone : WorkedAlone v work
  pub shows : AloneShows P setups calls reports work v reads

-- a caller's calls so far
pub record CallsMade (P : Program) (floor : List Look) (calls : List Begun) (reports : List Report) (v : View) (reads : List Read) : Type 0 where
  pub seen : All (IsSeen v) floor
  pub answered : List Answered
  pub are_calls : map (λ (a : Answered). a.call) answered ≡ calls
  pub are_reports : map (λ (a : Answered). a.report) answered ≡ reports
  pub headline : All (λ (a : Answered). Stands P a.call a.report) answered
  pub lookups : v.lookups ≡ map looked (looks_of reports)
  pub above : All (IsAbove floor) (looks_of reports)
  pub in_parts : ReadsInParts P (known_codes v) (call_items answered) reads
