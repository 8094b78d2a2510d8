-- What is made for a job, and what comes of it.
use Rattle.std.proofs.Common.{◌≡◌, ℕ, List, sym, subst}
use Rattle.std.specs.Prelude.{Some}
use Rattle.cj_ir.specs.declared.language.FunId.{FunId}
use Rattle.cj_ir.specs.declared.language.Program.{Program}
use Rattle.cj_draft.specs.declared.code.Code.{Code}
use Rattle.cj_draft.specs.declared.passes.Skipped.{Skipped}
use Rattle.cj_spelling.specs.Spells.{Spells}
use Rattle.cj_profile.specs.declared.view.Read.{Read}
use Rattle.cj_publish.specs.Spelled.{SpellsVersion}
use Rattle.cj_publish.specs.declared.view.View.{View}
use Rattle.cj_parts.specs.Calls.{GainsPart}
use Rattle.cj_notes.specs.declared.notes.WorkNote.{WorkNote}
use Rattle.cj_notes.specs.Jobs.{Job, IsMadeFor, job_of}
use Rattle.cj_notes.specs.JobParts.{LooksAt}
use Rattle.cj_notes.specs.Works.{Worked, JobDone}
use Rattle.cj_worker.specs.declared.tasks.Task.{Task}
use Rattle.cj_worker.specs.declared.tasks.Made.TheVariants.{Spelled}
use Rattle.cj_worker.specs.Tasks.{IsTaskOf, job_in, IsMade, GivesNote}

-- the words of a version that was made for the program and function of the job
pub made_spelled : (P Q : Program) (g : FunId) (j : Job) (code : Code) (skips : List (ℕ × Skipped)) (words : List ℕ)
    → Q ≡ P → g ≡ j.function → IsMadeFor P j code skips → Spells words code → SpellsVersion Q g 0 words → IsMade P j (Spelled words skips)
made_spelled P Q g j code skips words program function made spells version =
    let here : SpellsVersion P g 0 words = subst (λ (R : Program). SpellsVersion R g 0 words) program version in
    (code, made, spells, subst (λ (h : FunId). SpellsVersion P h 0 words) function here)

pub job_done : (P : Program) (f : FunId) (level : ℕ) (t : Task) (note : WorkNote) (v w : View) (old new : List Read)
    → IsTaskOf f level t → job_of note ≡ Some (job_in t) → GivesNote P note v w → GainsPart (LooksAt P (job_in t)) old new
    → JobDone P (record { function = f; level = level }) note v w old new
job_done P f level t note v w old new is tells gives reads = record {
  code = gives.0;
  works = gives.1;
  is_line = record { job = job_in t; is_job = tells; function = is.function; level = is.is_level };
  reads = reads;
}

-- the same note
pub noted : (P : Program) (told note : WorkNote) (code : Code) (v w : View) → note ≡ told → Worked P (record { note = told; code = Some code }) v w
    → Worked P (record { note = note; code = Some code }) v w
noted P told note code v w same h = subst (λ (n : WorkNote). Worked P (record { note = n; code = Some code }) v w) (sym same) h
