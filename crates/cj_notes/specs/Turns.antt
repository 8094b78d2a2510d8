-- The turns of a worker.
use Rattle.std.specs.Prelude.{ℕ, ◌<◌, List, [], ◌∷◌, ◌++◌}
use Rattle.cj_ir.specs.declared.language.Program.{Program}
use Rattle.cj_profile.specs.declared.view.Read.{Read}
use Rattle.cj_profile.specs.declared.layout.Word.TheVariants as word
use Rattle.cj_profile.specs.Reads.{load}
use Rattle.cj_notes.specs.declared.notes.WorkNote.{WorkNote}
use Rattle.cj_notes.specs.Causes.{kept}
use Rattle.cj_notes.specs.JobParts.{WorkPart}

-- fewer callers had finished than there are, and one work was done
pub record Turn : Type 0 where
  pub finished : ℕ
  pub note : WorkNote
  pub part : List Read

pub record IsTurn (P : Program) (callers : ℕ) (t : Turn) : Type 0 where
  pub unfinished : t.finished < callers
  pub work : WorkPart P t.note t.part

unfoldable pub kept_notes : List Turn → List WorkNote
kept_notes [] = []
kept_notes (t ∷ ts) = kept t.note ++ kept_notes ts

unfoldable pub turn_reads : List Turn → List Read
turn_reads [] = []
turn_reads (t ∷ ts) = (load word.Finished t.finished ∷ t.part) ++ turn_reads ts
