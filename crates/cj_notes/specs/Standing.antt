-- What a worker's notes say of its seat's view.
use Rattle.std.specs.Prelude.{◌≡◌, ℕ, ◌+◌, ◌≤◌, ◌<◌, List, [], ◌∷◌, ◌++◌, map, Option, All, ⊤, sum_by}
use Rattle.std.specs.Option.{IsSomeAnd}
use Rattle.cj_ir.specs.declared.language.Program.{Program}
use Rattle.cj_draft.specs.declared.code.Code.{Code}
use Rattle.cj_publish.specs.declared.view.View.{View}
use Rattle.cj_publish.specs.declared.publishing.Published.TheVariants as how
use Rattle.cj_publish.specs.Calls.{SeenAt}
use Rattle.cj_publish.specs.Views.{Outcomes}
use Rattle.cj_publish.specs.Fetched.{main_of, HasVersion}
use Rattle.cj_notes.specs.declared.notes.WorkNote.{WorkNote}
use Rattle.cj_notes.specs.declared.notes.WorkNote.TheVariants.{Published, Older, Full, TooLarge, NoneAsked, Taken}
use Rattle.cj_notes.specs.Causes.{HasCode, Noted, claimed_by}

-- what the note says of the table: the version stands there, a newer one was seen, or there was no room
abbrev pub IsShown : View → WorkNote → Option Code → Type 0
IsShown v (Published f level offset snapshot skipped) made = IsSomeAnd made (λ code. HasVersion v (main_of f) offset code)
IsShown v (Older f level mine found snapshot) made = SeenAt v (main_of f) found
IsShown v (Full f level next need snapshot) made = (v.key.size < next + need) × (next ≤ v.next)
IsShown v (TooLarge f level len snapshot) made = ⊤
IsShown v NoneAsked made = ⊤
IsShown v (Taken f found) made = ⊤

-- the cause of a note, over its code and the view
pub record NoteStands (P : Program) (v : View) (n : Noted) : Type 0 where
  pub has_code : HasCode P n.note n.code
  pub shown : IsShown v n.note n.code

-- what the note says of the claim of its job: it was published, or it came too late
unfoldable pub outcome_of : WorkNote → Outcomes
outcome_of (Published f level offset snapshot skipped) = (main_of f, how.Published offset) ∷ []
outcome_of (Older f level mine found snapshot) = (main_of f, how.Older mine found) ∷ []
outcome_of (Full f level next need snapshot) = []
outcome_of (TooLarge f level len snapshot) = []
outcome_of NoneAsked = []
outcome_of (Taken f found) = []

unfoldable pub outcomes_of : List WorkNote → Outcomes
outcomes_of [] = []
outcomes_of (n ∷ ns) = outcome_of n ++ outcomes_of ns

-- Each of the notes has its code and its cause. The seat has claimed words for them alone since it had claimed that many, and since
-- that had become of its claims, the notes tell what has become of them.
pub record NotesAdd (P : Program) (before : ℕ) (ended : Outcomes) (v : View) (notes : List WorkNote) : Type 0 where
  pub noted : List Noted
  pub are_notes : map (λ (n : Noted). n.note) noted ≡ notes
  pub causes : All (NoteStands P v) noted
  pub taken : v.taken ≡ before + sum_by claimed_by noted
  pub outcomes : v.outcomes ≡ ended ++ outcomes_of notes

-- the seat has never claimed words for anything else
abbrev pub NotesStand : Program → View → List WorkNote → Type 0
NotesStand P v notes = NotesAdd P 0 [] v notes
