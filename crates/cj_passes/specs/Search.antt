-- What the search for the reached labels of a code keeps.
use Rattle.std.specs.Prelude.{◌≡◌, ℕ, ◌<◌, Bool, true, List, length, count_by, Contains, Some, slice_get}
use Rattle.cj_ir.specs.declared.language.Label.{Label}
use Rattle.cj_draft.specs.declared.code.Place.{Place}
use Rattle.cj_draft.specs.declared.code.Code.{Code}
use Rattle.cj_draft.specs.Arrives.{place_at}
use Rattle.cj_draft.specs.Edges.{successors}
use Rattle.cj_passes.specs.Lowering.{passed, Reached}

-- the labels found so far, each of them reached and marked as kept, and no others are marked
pub record IsSearch (code : Code) (kept : List Bool) (found : List Label) : Type 0 where
  pub count : length kept ≡ length code.places
  pub number : length found ≡ count_by (λ keeps. keeps) kept
  pub kept_found : (label : Label) → slice_get kept label.0 ≡ Some true → Contains found label
  pub found_kept : (label : Label) → Contains found label → slice_get kept label.0 ≡ Some true
  pub reached : (label : Label) → Contains found label → Reached code label

-- what was found stays where it stands
abbrev pub Grows : List Label → List Label → Type 0
Grows old new = (k : ℕ) (label : Label) → slice_get old k ≡ Some label → slice_get new k ≡ Some label

-- these edges lead to labels that are found
abbrev pub AreLed : Code → List Label → List Label → Type 0
AreLed code found nexts = (next : Label) → Contains nexts next → Contains found (passed code next)

-- so do the edges of a label
abbrev pub IsFollowed : Code → List Label → Label → Type 0
IsFollowed code found label =
    (place : Place) → place_at code label ≡ Some place → AreLed code found (successors place.instr)

-- so do the edges of the first n that were found
abbrev pub AreFollowed : Code → List Label → ℕ → Type 0
AreFollowed code found n =
    (k : ℕ) (label : Label) → k < n → slice_get found k ≡ Some label → IsFollowed code found label
