-- What a worker's call does to the views of its seats.
use Rattle.std.specs.Prelude.{◌≡◌, ℕ, ◌+◌, ◌≤◌, true, List, ◌++◌, Option, Some, None, ⊤}
use Rattle.cj_ir.specs.declared.language.FunId.{FunId}
use Rattle.cj_ir.specs.declared.language.Program.{Program}
use Rattle.cj_draft.specs.declared.code.Code.{Code}
use Rattle.cj_profile.specs.declared.view.Read.{Read}
use Rattle.cj_publish.specs.declared.view.View.{View}
use Rattle.cj_publish.specs.Fetched.{main_of}
use Rattle.cj_publish.specs.Learns.{Learns}
use Rattle.cj_publish.specs.Seen.{SeesNoMore, SeesOneMore}
use Rattle.cj_parts.specs.Calls.{GainsPart}
use Rattle.cj_notes.specs.declared.notes.WorkNote.{WorkNote}
use Rattle.cj_notes.specs.declared.notes.WorkNote.TheVariants.{Published, Older, Full, TooLarge, NoneAsked, Taken}
use Rattle.cj_notes.specs.Jobs.{Job, job_of}
use Rattle.cj_notes.specs.Causes.{Noted, claimed_by}
use Rattle.cj_notes.specs.Standing.{NoteStands, outcome_of}
use Rattle.cj_notes.specs.JobParts.{LooksAt, WarmPart, WorkPart, LostMark, LostJob}

-- what was claimed lies behind all that was seen before; a note without room has the greatest `next` that was seen
abbrev pub IsFresh : View → View → WorkNote → Type 0
IsFresh v w (Published f level offset snapshot skipped) = v.next ≤ offset
IsFresh v w (Older f level mine found snapshot) = v.next ≤ mine
IsFresh v w (Full f level next need snapshot) = next ≡ w.next
IsFresh v w (TooLarge f level len snapshot) = ⊤
IsFresh v w NoneAsked = ⊤
IsFresh v w (Taken f found) = ⊤

-- what the only seat that there ever was has seen through a work: nothing new but the version that the note published, and none
-- came too late
abbrev pub SeesItsOwn : View → View → WorkNote → Type 0
SeesItsOwn v w (Published f level offset snapshot skipped) = SeesOneMore v (main_of f) offset w
SeesItsOwn v w (Older f level mine found snapshot) = ⊥
SeesItsOwn v w (Full f level next need snapshot) = SeesNoMore v w
SeesItsOwn v w (TooLarge f level len snapshot) = SeesNoMore v w
SeesItsOwn v w NoneAsked = SeesNoMore v w
SeesItsOwn v w (Taken f found) = SeesNoMore v w

-- what a work does to the view of the code seat, where this is its note
pub record Worked (P : Program) (n : Noted) (v w : View) : Type 0 where
  pub learns : Learns v w
  pub claim : w.claim ≡ None
  pub joined : w.joined ≡ v.joined
  pub lookups : w.lookups ≡ v.lookups
  pub cause : NoteStands P w n
  pub fresh : IsFresh v w n.note
  pub taken : w.taken ≡ v.taken + claimed_by n
  pub outcomes : w.outcomes ≡ v.outcomes ++ outcome_of n.note
  pub alone : v.sole ≡ true → (w.sole ≡ true) × SeesItsOwn v w n.note

-- a `warm` line
pub record WarmLine : Type 0 where
  pub function : FunId
  pub level : ℕ

-- the note is of that line's function and level, and has a job
pub record IsWarmOf (line : WarmLine) (note : WorkNote) : Type 0 where
  pub job : Job
  pub is_job : job_of note ≡ Some job
  pub function : job.function ≡ line.function
  pub level : job.level ≡ line.level

-- a job of that function and level was done, and this is its note
pub record JobDone (P : Program) (line : WarmLine) (note : WorkNote) (v w : View) (old new : List Read) : Type 0 where
  pub code : Option Code
  pub works : Worked P (record { note = note; code = code }) v w
  pub is_line : IsWarmOf line note
  pub reads : GainsPart (LooksAt P is_line.job) old new

-- `work_one` has given the note
pub record WorkedOne (P : Program) (note : WorkNote) (v w : View) (old new : List Read) : Type 0 where
  pub code : Option Code
  pub works : Worked P (record { note = note; code = code }) v w
  pub reads : GainsPart (WorkPart P note) old new

-- `warm` has given the note
pub record Warmed (P : Program) (line : WarmLine) (note : WorkNote) (v w : View) (old new : List Read) : Type 0 where
  pub code : Option Code
  pub works : Worked P (record { note = note; code = code }) v w
  pub is_line : IsWarmOf line note
  pub reads : GainsPart (WarmPart P note) old new

-- `work_one` ran out of memory: its job is lost, and no word was read, claimed or written
pub record WorkFailed (P : Program) (v w : View) (old new : List Read) : Type 0 where
  pub same : w ≡ v
  pub reads : GainsPart (LostJob P) old new

-- `warm` ran out of memory: the level is marked as taken all the same
pub record WarmFailed (line : WarmLine) (v w : View) (old new : List Read) : Type 0 where
  pub same : w ≡ v
  pub reads : GainsPart (LostMark line.function line.level) old new
