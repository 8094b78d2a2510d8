-- The turn of one label of the list.
use Rattle.std.specs.Prelude.{◌≡◌, ℕ, ◌⊎◌, List, [], ◌∷◌, ◌++◌, Some, None}
use Rattle.cj_ir.specs.declared.language.Label.{Label}
use Rattle.cj_draft.specs.declared.code.Back.{Back}
use Rattle.cj_draft.specs.declared.code.Place.{Place}
use Rattle.cj_draft.specs.declared.code.Code.{Code}
use Rattle.cj_draft.specs.declared.passes.Skipped.{Skipped}
use Rattle.cj_draft.specs.Sound.{pair_of}
use Rattle.cj_draft.specs.Skips.{told}
use Rattle.cj_rows.specs.Pairs.{AreWith}
use Rattle.cj_anchor.specs.AnchorInsertion.{anchor_offence, anchor_place, IsAnchored}

-- the code that a label's turn makes, and the skips before and after it
abbrev pub IsAnchorStep : Code → ℕ → Label → Code → List (ℕ × Skipped) → List (ℕ × Skipped) → Type 0
IsAnchorStep code index label made skips more =
    ((anchor_offence code label ≡ None) × IsAnchored code label made × (more ≡ skips))
    ⊎ ((skipped : Skipped) × (anchor_offence code label ≡ Some skipped) × (made ≡ code) × (more ≡ skips ++ (told index, skipped) ∷ []))

-- the place of a fresh Anchor
pub record IsAnchorPlace (label : Label) (place fresh : Place) : Type 0 where
  pub backs : List Back
  pub with_own : AreWith place.backs (pair_of 0 place.point) backs
  pub same : fresh ≡ anchor_place label place backs
