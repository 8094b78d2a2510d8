-- The parts that works and `warm` lines have among the reads of their seat.
use Rattle.std.specs.Prelude.{◌≡◌, ℕ, List, ◌∷◌, ◌++◌, length, Some, All}
use Rattle.cj_ir.specs.declared.language.FunId.{FunId}
use Rattle.cj_ir.specs.declared.language.Program.{Program}
use Rattle.cj_profile.specs.declared.view.Read.{Read}
use Rattle.cj_profile.specs.declared.layout.Word.TheVariants as word
use Rattle.cj_profile.specs.declared.jobs.JobAnswer.{JobAnswer}
use Rattle.cj_profile.specs.declared.jobs.JobAnswer.TheVariants as answer
use Rattle.cj_profile.specs.Reads.{raise, Keeps}
use Rattle.cj_profile.specs.Snapshots.{snapshot_loads, FitsFunction}
use Rattle.cj_profile.specs.Jobs.{TakesJob}
use Rattle.cj_parts.specs.Parts.{Among}
use Rattle.cj_notes.specs.declared.notes.WorkNote.{WorkNote}
use Rattle.cj_notes.specs.declared.notes.WorkNote.TheVariants.{Published, Older, Full, TooLarge, NoneAsked, Taken}
use Rattle.cj_notes.specs.Jobs.{Job, job, job_of}

-- Entries that change nothing, and among them the loads of the job's snapshot, which has all that `snapshot` reads of its
-- function.
pub record LooksAt (P : Program) (j : Job) (rs : List Read) : Type 0 where
  pub fits : FitsFunction P j.function j.snapshot
  pub keep : All Keeps rs
  pub loads : Among (snapshot_loads j.function j.snapshot) rs

-- ---- a `warm` line

-- the level is marked as taken, and then come such entries
abbrev pub Marks : FunId → ℕ → (List Read → Type 0) → List Read → Type 0
Marks f level IsRest rs = (found : ℕ) × (rest : List Read) × IsRest rest × (rs ≡ raise (word.Taken f) found level ∷ rest)

-- the entry of `mark_taken` comes first
abbrev pub MarkedPart : Program → Job → List Read → Type 0
MarkedPart P j rs = Marks j.function j.level (LooksAt P j) rs

abbrev pub WarmPart : Program → WorkNote → List Read → Type 0
WarmPart P note rs = (j : Job) × (job_of note ≡ Some j) × MarkedPart P j rs

-- ---- a work

-- all functions are gone through, up to the first that answers
abbrev pub Takes : Program → JobAnswer → List Read → Type 0
Takes P by rs = TakesJob (length P.functions) 0 by rs

-- the job was taken, and then come such entries
abbrev pub TakesFirst : Program → FunId → ℕ → (List Read → Type 0) → List Read → Type 0
TakesFirst P f level IsRest rs = (front : List Read) × (rest : List Read) × Takes P (answer.Job f level) front × IsRest rest × (rs ≡ front ++ rest)

-- the exchange of a job, and then nothing that changes a word
abbrev pub JobPart : Program → Job → List Read → Type 0
JobPart P j rs = TakesFirst P j.function j.level (LooksAt P j) rs

abbrev pub WorkPart : Program → WorkNote → List Read → Type 0
WorkPart P (Published f level offset snapshot skipped) rs = JobPart P (job f level snapshot) rs
WorkPart P (Older f level mine found snapshot) rs = JobPart P (job f level snapshot) rs
WorkPart P (Full f level next need snapshot) rs = JobPart P (job f level snapshot) rs
WorkPart P (TooLarge f level len snapshot) rs = JobPart P (job f level snapshot) rs
WorkPart P NoneAsked rs = Takes P answer.NoneAsked rs
WorkPart P (Taken f found) rs = Takes P (answer.Taken f found) rs

-- ---- where there was no memory

-- the level is marked as taken all the same
abbrev pub LostMark : FunId → ℕ → List Read → Type 0
LostMark f level rs = Marks f level (All Keeps) rs

-- the job is lost
abbrev pub LostJob : Program → List Read → Type 0
LostJob P rs = (f : FunId) × (level : ℕ) × TakesFirst P f level (All Keeps) rs
