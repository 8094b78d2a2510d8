-- A work, from the answer of the profile and what came of it.
use Rattle.std.proofs.Common.{◌≡◌, ◌∙◌, sym, subst, List, ◌++◌}
use Rattle.std.specs.Prelude.{None}
use Rattle.cj_ir.specs.declared.language.Program.{Program}
use Rattle.cj_profile.specs.declared.jobs.JobAnswer.{JobAnswer}
use Rattle.cj_profile.specs.declared.jobs.JobAnswer.TheVariants.{Job, NoneAsked, Taken}
use Rattle.cj_profile.specs.declared.view.Read.{Read}
use Rattle.cj_publish.specs.declared.view.View.{View}
use Rattle.cj_notes.specs.declared.notes.WorkNote.{WorkNote}
use Rattle.cj_notes.specs.declared.notes.WorkNote.TheVariants as told
use Rattle.cj_notes.specs.JobParts.{Takes}
use Rattle.cj_notes.specs.Works.{WorkedOne, WorkFailed}
use Rattle.cj_notes.proofs.Doing.{worked_one, none_asked, was_taken, work_failed}
use Rattle.cj_worker.specs.Answers.{Answered, AnswerFailed}

module _ (P : Program) (v w : View) (free : v.claim ≡ None) (old mid new front : List Read) (gains : mid ≡ old ++ front) where
  -- a work without a job, which leaves all as it was
  still : (note told : WorkNote) → note ≡ told → w ≡ v → new ≡ mid → WorkedOne P told v v old mid → WorkedOne P note v w old new
  still note told is same reads h =
      let noted : WorkedOne P note v v old mid = subst (λ (n : WorkNote). WorkedOne P n v v old mid) (sym is) h in
      let seen : WorkedOne P note v w old mid = subst (λ (x : View). WorkedOne P note v x old mid) (sym same) noted in
      subst (λ (rs : List Read). WorkedOne P note v w old rs) (sym reads) seen

  pub worked_by : (found : JobAnswer) (note : WorkNote) → Takes P found front → Answered P found note v w mid new → WorkedOne P note v w old new
  worked_by (Job f level) note takes done = worked_one P f level v w old mid new note front takes gains done
  worked_by NoneAsked note takes (is, same, reads) = still note told.NoneAsked is same reads (none_asked P v old mid free front gains takes)
  worked_by (Taken f found) note takes (is, same, reads) =
      still note (told.Taken f found) is same reads (was_taken P v old mid free front gains f found takes)

  pub failed_by : (found : JobAnswer) → Takes P found front → AnswerFailed found v w mid new → WorkFailed P v w old new
  failed_by (Job f level) takes (same, lost) = work_failed P f level v w old mid new front takes gains same lost
  failed_by NoneAsked takes never = absurd never
  failed_by (Taken f found) takes never = absurd never
