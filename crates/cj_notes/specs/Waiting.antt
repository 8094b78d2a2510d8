-- What a worker that works until all callers have finished does to the views of its seats.
use Rattle.std.specs.Prelude.{◌≡◌, ℕ, ◌<◌, ◌≤◌, List, [], ◌∷◌, ◌++◌, ◌⊎◌, length, All}
use Rattle.cj_ir.specs.declared.language.Program.{Program}
use Rattle.cj_profile.specs.declared.view.Read.{Read}
use Rattle.cj_profile.specs.declared.layout.Word.TheVariants as word
use Rattle.cj_profile.specs.Reads.{load}
use Rattle.cj_publish.specs.declared.view.View.{View}
use Rattle.cj_publish.specs.Learns.{Learns}
use Rattle.cj_notes.specs.declared.notes.WorkNote.{WorkNote}
use Rattle.cj_notes.specs.Standing.{NotesAdd}
use Rattle.cj_notes.specs.JobParts.{LostJob}
use Rattle.cj_notes.specs.Turns.{Turn, IsTurn, kept_notes, turn_reads}

-- nothing was looked up or joined
pub record WorksOn (v w : View) : Type 0 where
  pub learns : Learns v w
  pub joined : w.joined ≡ v.joined
  pub lookups : w.lookups ≡ v.lookups

-- So many turns were made. Each begins with a load of the count of finished callers, which found fewer than there are, and
-- then comes the part of one work. The notes with a job are kept, and these alone have claimed words.
pub record TurnsMade (P : Program) (callers : ℕ) (work : List WorkNote) (v w : View) (old new : List Read) : Type 0 where
  pub on : WorksOn v w
  pub turns : List Turn
  pub each : All (IsTurn P callers) turns
  pub are_kept : work ≡ kept_notes turns
  pub reads : new ≡ old ++ turn_reads turns
  pub notes : NotesAdd P v.taken v.outcomes w work

-- the last load found that all callers have finished
pub record TurnsDone (P : Program) (callers : ℕ) (work : List WorkNote) (v w : View) (old new : List Read) : Type 0 where
  pub made : List Read
  pub turns : TurnsMade P callers work v w old made
  pub last : ℕ
  pub finished : callers ≤ last
  pub reads : new ≡ made ++ load word.Finished last ∷ []

-- fewer callers had finished than there are, and the job that was taken then is lost
abbrev pub IsLostTurn : Program → ℕ → List Read → Type 0
IsLostTurn P callers rs =
    (finished : ℕ) × (part : List Read) × (finished < callers) × LostJob P part × (rs ≡ load word.Finished finished ∷ part)

-- Memory ran out. So many turns were made, and their notes are lost. Behind them comes nothing, where there was no room for
-- the last note; or a turn whose job is lost, and which claimed and wrote nothing.
pub record TurnsLost (P : Program) (callers : ℕ) (v w : View) (old new : List Read) : Type 0 where
  pub work : List WorkNote
  pub made : List Read
  pub turns : TurnsMade P callers work v w old made
  pub rest : List Read
  pub last : ((1 ≤ length work) × (rest ≡ [])) ⊎ IsLostTurn P callers rest
  pub reads : new ≡ made ++ rest
