-- What comes of what the profile answered.
use Rattle.std.specs.Prelude.{◌≡◌, List, All}
use Rattle.cj_ir.specs.declared.language.Program.{Program}
use Rattle.cj_profile.specs.declared.jobs.JobAnswer.{JobAnswer}
use Rattle.cj_profile.specs.declared.jobs.JobAnswer.TheVariants as answer
use Rattle.cj_profile.specs.declared.view.Read.{Read}
use Rattle.cj_profile.specs.Reads.{Keeps}
use Rattle.cj_publish.specs.declared.view.View.{View}
use Rattle.cj_parts.specs.Calls.{GainsPart}
use Rattle.cj_notes.specs.declared.notes.WorkNote.{WorkNote}
use Rattle.cj_notes.specs.declared.notes.WorkNote.TheVariants.{NoneAsked, Taken}
use Rattle.cj_notes.specs.Works.{JobDone}

-- a job is done; where there was none the note tells so, and nothing was done
abbrev pub Answered : Program → JobAnswer → WorkNote → View → View → List Read → List Read → Type 0
Answered P (answer.Job f level) note v w old new = JobDone P (record { function = f; level = level }) note v w old new
Answered P answer.NoneAsked note v w old new = (note ≡ NoneAsked) × (w ≡ v) × (new ≡ old)
Answered P (answer.Taken f found) note v w old new = (note ≡ Taken f found) × (w ≡ v) × (new ≡ old)

-- a job alone may find no memory, and nothing was claimed for it
abbrev pub AnswerFailed : JobAnswer → View → View → List Read → List Read → Type 0
AnswerFailed (answer.Job f level) v w old new = (w ≡ v) × GainsPart (All Keeps) old new
AnswerFailed answer.NoneAsked v w old new = ⊥
AnswerFailed (answer.Taken f found) v w old new = ⊥
