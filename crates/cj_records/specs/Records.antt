-- The record of a role: what its two seats gained.
use Rattle.std.specs.Prelude.{◌≡◌, ℕ, ◌≤◌, true, false, List, [], ◌∷◌, ◌++◌, map, None, All}
use Rattle.cj_ir.specs.declared.language.Program.{Program}
use Rattle.cj_base.specs.Run.{Begun}
use Rattle.cj_calls.specs.declared.report.Look.{Look}
use Rattle.cj_calls.specs.declared.report.Report.{Report}
use Rattle.cj_machine.specs.Versions.{Codes}
use Rattle.cj_profile.specs.declared.view.Read.{Read}
use Rattle.cj_profile.specs.declared.layout.Word.TheVariants as word
use Rattle.cj_profile.specs.declared.profile.ProfileSeat.{ProfileSeat}
use Rattle.cj_profile.specs.Reads.{load, add_one}
use Rattle.cj_profile.specs.Seats as counts
use Rattle.cj_publish.specs.declared.view.View.{View}
use Rattle.cj_publish.specs.declared.seats.CodeSeat.{CodeSeat}
use Rattle.cj_publish.specs.Reliable.{IsReliable}
use Rattle.cj_publish.specs.Seats.{view_of}
use Rattle.cj_parts.specs.Known.{known_codes, AreIn}
use Rattle.cj_parts.specs.Looks.{looked, looks_of, NeverFall, IsAbove}
use Rattle.cj_parts.specs.Calls.{Stands}
use Rattle.cj_notes.specs.declared.notes.WorkNote.{WorkNote}
use Rattle.cj_notes.specs.Standing.{NotesStand}
use Rattle.cj_notes.specs.Turns.{Turn, IsTurn, kept_notes, turn_reads}
use Rattle.cj_records.specs.Items.{Item, OfCall, ReadsInParts}

-- a caller with its calls, each with the memory that it begins with, and what its looks are above; a worker with the
-- number of callers that it waits for
pub data Role : Type 0 where
  Caller : (calls : List Begun) (floor : List Look) → Role
  Worker : (callers : ℕ) → Role

-- a role with what it answered, and what its two seats gained
pub record Done : Type 0 where
  pub role : Role
  pub reports : List Report
  pub work : List WorkNote
  pub looks : List Look
  pub reads : List Read

-- ---- callers

-- a call with its report
pub record Answered : Type 0 where
  pub call : Begun
  pub report : Report

unfoldable pub call_items : List Answered → List Item
call_items answered = map (λ (a : Answered). OfCall a.call a.report) answered

-- One report for each call. The lookups are the looks of the reports; the reads are in parts over the calls, and one entry
-- more tells that the caller has finished.
pub record CallerRecord (P : Program) (codes : Codes) (calls : List Begun) (floor : List Look) (d : Done) : Type 0 where
  pub no_work : d.work ≡ []
  pub answered : List Answered
  pub are_calls : map (λ (a : Answered). a.call) answered ≡ calls
  pub are_reports : map (λ (a : Answered). a.report) answered ≡ d.reports
  pub headline : All (λ (a : Answered). Stands P a.call a.report) answered
  pub looks : d.looks ≡ looks_of d.reports
  pub rises : NeverFall d.looks
  pub above : All (IsAbove floor) d.looks
  pub made : List Read
  pub in_parts : ReadsInParts P codes (call_items answered) made
  pub found : ℕ
  pub reads : d.reads ≡ made ++ add_one word.Finished found ∷ []

-- ---- workers

-- No lookups. The reads are loads of the count of finished callers, each but the last followed by the part of one work, and
-- the last of them found them all. The notes with a job are kept.
pub record WorkerRecord (P : Program) (callers : ℕ) (d : Done) : Type 0 where
  pub no_reports : d.reports ≡ []
  pub no_looks : d.looks ≡ []
  pub turns : List Turn
  pub each : All (IsTurn P callers) turns
  pub notes : d.work ≡ kept_notes turns
  pub last : ℕ
  pub finished : callers ≤ last
  pub reads : d.reads ≡ turn_reads turns ++ load word.Finished last ∷ []

-- ---- records

abbrev pub RoleRecord : Program → Codes → Role → Done → Type 0
RoleRecord P codes (Caller calls floor) d = CallerRecord P codes calls floor d
RoleRecord P codes (Worker callers) d = WorkerRecord P callers d

abbrev pub IsRecord : Program → Codes → Done → Type 0
IsRecord P codes d = RoleRecord P codes d.role d

-- a record over codes that all stand in regions that the view has read whole
abbrev pub IsBacked : Program → View → Done → Type 0
IsBacked P v d = (codes : Codes) × AreIn v codes × IsRecord P codes d

-- ---- what a role hands back with its seats

-- a live view of a table of that program, with one slot for each function and so many words
pub record IsOver (P : Program) (size : ℕ) (v : View) : Type 0 where
  pub live : v.live ≡ true
  pub program : v.key.program ≡ P
  pub one_slot : v.key.slots ≡ 1
  pub sized : v.key.size ≡ size

-- seats that were split off, and into which nothing was joined
pub record AreSplitOff (P : Program) (size : ℕ) (s : CodeSeat) (t : ProfileSeat) : Type 0 where
  pub over : IsOver P size (view_of s)
  pub reliable : IsReliable (view_of s)
  pub free : (view_of s).claim ≡ None
  pub code_first : s.first ≡ false
  pub code_joined : (view_of s).joined ≡ []
  pub profile_first : t.first ≡ false
  pub profile_joined : counts.joined_of t ≡ []

-- What such seats gained is a record of the role, and the notes have their causes.
pub record RoleStands (P : Program) (size : ℕ) (role : Role) (reports : List Report) (work : List WorkNote) (s : CodeSeat) (t : ProfileSeat) : Type 0 where
  pub seats : AreSplitOff P size s t
  pub looks : List Look
  pub lookups : (view_of s).lookups ≡ map looked looks
  pub is_record : IsRecord P (known_codes (view_of s)) (record { role = role; reports = reports; work = work; looks = looks; reads = counts.reads_of t })
  pub notes : NotesStand P (view_of s) work
