-- A worker and its seats.
use Rattle.std.specs.Prelude.{◌≡◌, ℕ, ◌<◌, ◌≤◌, Bool, true, false, None, List, [], ◌∷◌, ◌++◌, ◌⊎◌, length}
use Rattle.cj_ir.specs.declared.language.Program.{Program}
use Rattle.cj_profile.specs.Seats as counts
use Rattle.cj_profile.specs.Reads.{load}
use Rattle.cj_profile.specs.declared.layout.Word.TheVariants as word
use Rattle.cj_profile.specs.declared.view.Read.{Read}
use Rattle.cj_publish.specs.declared.view.View.{View}
use Rattle.cj_publish.specs.Seats.{view_of, key_of, program_of, Belongs, IsSame}
use Rattle.cj_notes.specs.declared.notes.WorkNote.{WorkNote}
use Rattle.cj_notes.specs.Causes.{kept}
use Rattle.cj_notes.specs.Works.{WorkedOne, WorkFailed}
use Rattle.cj_worker.specs.declared.worker.Worker.{Worker}

abbrev pub program_in : Worker → Program
program_in w = w.checked.now

-- what its seat at the code table knows, and the steps that its seat at the profile made
abbrev pub view_in : Worker → View
view_in w = view_of w.code_seat

abbrev pub reads_in : Worker → List Read
reads_in w = counts.reads_of w.profile_seat

-- both tables are of the program, the seats are theirs, and nothing is claimed
pub record IsReady (w : Worker) : Type 0 where
  pub code : Belongs w.table.now w.code_seat
  pub program : program_of w.table.now ≡ w.checked.now
  pub one_slot : (key_of w.table.now).slots ≡ 1
  pub free : (view_of w.code_seat).claim ≡ None
  pub profile : counts.Belongs w.profile.now w.profile_seat
  pub counted : counts.program_of w.profile.now ≡ w.checked.now

-- what stays, whatever came of a call: the tables, and of each seat whether it is first, its splits and what was joined into it
pub record Stays (a b : Worker) : Type 0 where
  pub checked : b.checked.now ≡ a.checked.now
  pub table : b.table.now ≡ a.table.now
  pub profile : b.profile.now ≡ a.profile.now
  pub code_same : IsSame a.code_seat b.code_seat
  pub profile_same : counts.IsSame a.profile_seat b.profile_seat

-- the count of finished callers was loaded, and was that
abbrev pub Loaded : ℕ → List Read → List Read → Type 0
Loaded finished old new = new ≡ old ++ load word.Finished finished ∷ []

-- A look at the count of finished callers found them all; or it found fewer, and then one work was done, whose note is kept
-- where it has a job.
abbrev pub TurnMade : ℕ → Bool → List WorkNote → List WorkNote → Worker → Worker → Type 0
TurnMade callers true before after a b =
    (finished : ℕ) × (callers ≤ finished) × (after ≡ before) × (view_in b ≡ view_in a) × Loaded finished (reads_in a) (reads_in b)
TurnMade callers false before after a b =
    (finished : ℕ) × (finished < callers) × (note : WorkNote) × (after ≡ before ++ kept note)
    × (mid : List Read) × Loaded finished (reads_in a) mid × WorkedOne (program_in a) note (view_in a) (view_in b) mid (reads_in b)

-- Memory ran out: the turn was made, but there was no room for its note; or a look found fewer callers than there are, and
-- the job that was taken then is lost.
abbrev pub TurnLost : ℕ → List WorkNote → Worker → Worker → Type 0
TurnLost callers before a b =
    ((after : List WorkNote) × (1 ≤ length after) × TurnMade callers false before after a b)
    ⊎ ((finished : ℕ) × (finished < callers) × (mid : List Read) × Loaded finished (reads_in a) mid
    × WorkFailed (program_in a) (view_in a) (view_in b) mid (reads_in b))
