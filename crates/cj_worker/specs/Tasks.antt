-- What is made for a job before a word is claimed.
use Rattle.std.specs.Prelude.{◌≡◌, ℕ, Option}
use Rattle.cj_ir.specs.declared.language.FunId.{FunId}
use Rattle.cj_ir.specs.declared.language.Program.{Program}
use Rattle.cj_draft.specs.declared.code.Code.{Code}
use Rattle.cj_spelling.specs.Spells.{Spells, EncodeFails}
use Rattle.cj_spelling.specs.declared.codes.EncodeError.TheVariants as encode
use Rattle.cj_publish.specs.Spelled.{SpellsVersion}
use Rattle.cj_notes.specs.Jobs.{Job, job, IsMadeFor}
use Rattle.cj_publish.specs.declared.view.View.{View}
use Rattle.cj_notes.specs.declared.notes.WorkNote.{WorkNote}
use Rattle.cj_notes.specs.Causes.{IsCodeOf}
use Rattle.cj_notes.specs.Works.{Worked}
use Rattle.cj_worker.specs.declared.tasks.Task.{Task}
use Rattle.cj_worker.specs.declared.tasks.Made.{Made}
use Rattle.cj_worker.specs.declared.tasks.Made.TheVariants.{Spelled, TooLarge}

abbrev pub job_in : Task → Job
job_in t = job t.f t.level t.snapshot

-- the task is of that function and level
pub record IsTaskOf (f : FunId) (level : ℕ) (t : Task) : Type 0 where
  pub function : t.f ≡ f
  pub is_level : t.level ≡ level

-- The words spell the code of the job, which is sound, with what is skipped; or its spelling is too long.
abbrev pub IsMade : Program → Job → Made → Type 0
IsMade P j (Spelled words skipped) =
    (code : Code) × IsMadeFor P j code skipped × Spells words code × SpellsVersion P j.function 0 words
IsMade P j (TooLarge len) = (code : Code) × IsCodeOf P j code × EncodeFails (encode.TooLarge len) code

-- this is the note of the work, over the code that it has
abbrev pub GivesNote : Program → WorkNote → View → View → Type 0
GivesNote P note v w = (code : Option Code) × Worked P (record { note = note; code = code }) v w
