-- The steps by which an Assume comes to stand at the end of a path.
use Rattle.std.specs.Prelude.{◌≡◌, ℕ, ◌<◌, ◌≤◌, List, [], ◌∷◌, ◌++◌, length, Some, slice_set}
use Rattle.cj_draft.specs.declared.limits.TheConstants.{MAX_BACK}
use Rattle.cj_ir.specs.declared.language.Label.{Label}
use Rattle.cj_draft.specs.declared.points.Point.{Point}
use Rattle.cj_draft.specs.declared.instructions.VInstr.{VInstr}
use Rattle.cj_draft.specs.declared.instructions.VInstr.TheVariants.{Anchor}
use Rattle.cj_draft.specs.declared.code.Back.{Back}
use Rattle.cj_draft.specs.declared.code.Place.{Place}
use Rattle.cj_draft.specs.declared.code.Code.{Code}
use Rattle.cj_draft.specs.Arrives.{place_at}
use Rattle.cj_draft.specs.Edges.{fresh_label}
use Rattle.cj_rows.specs.Pairs.{AreWith}
use Rattle.cj_rows.specs.Places.{with_instr, with_places}
use Rattle.cj_delay.specs.DelayedAssume.{on_path, turns_back, with_backs, led_edge, fresh_place}

-- a path of at least two labels of a code, of which none stands in it twice
pub record IsPathIn (code : Code) (path : List Label) : Type 0 where
  pub long : 2 ≤ length path
  pub within : (at : ℕ) → at < length path → (on_path path at).0 < length code.places
  pub apart : (i j : ℕ) → i < j → j < length path → on_path path i ≡ on_path path j → ⊥

-- an Anchor at a label, behind which an Assume at the end of a path takes at most 4 turns back
pub record BeginsPath (code : Code) (path : List Label) : Type 0 where
  pub place : Place
  pub at : place_at code (on_path path 0) ≡ Some place
  pub number : ℕ
  pub target : Point
  pub next : Label
  pub instr : place.instr ≡ Anchor number target next
  pub few : turns_back code path number ≤ MAX_BACK

-- a place with one pair more, where it was missing
pub record IsMarkedPlace (pair : Back) (place made : Place) : Type 0 where
  pub backs : List Back
  pub with_pair : AreWith place.backs pair backs
  pub same : made ≡ with_backs backs place

-- the code in which a label has the pair
pub record IsMarkedAt (code : Code) (label : Label) (pair : Back) (made : Code) : Type 0 where
  pub place : Place
  pub at : place_at code label ≡ Some place
  pub marked : Place
  pub is_marked : IsMarkedPlace pair place marked
  pub same : made ≡ with_places code (slice_set code.places label.0 marked)

-- a place with this instruction, that has the point and the facts of another, and its pairs and this one
pub record IsFreshPlace (instr : VInstr) (last : Place) (pair : Back) (made : Place) : Type 0 where
  pub backs : List Back
  pub with_pair : AreWith last.backs pair backs
  pub same : made ≡ fresh_place instr last backs

-- the code with a fresh place, to which the edges from one label to another are led
pub record IsLed (code : Code) (before last : Label) (fresh : Place) (made : Code) : Type 0 where
  pub from : Place
  pub at : place_at code before ≡ Some from
  pub same : made ≡ with_places code (slice_set code.places before.0 (with_instr (led_edge last (fresh_label code) from.instr) from) ++ fresh ∷ [])
