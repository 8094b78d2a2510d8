-- Anchors before labels.
use Rattle.std.specs.Prelude.{◌≡◌, ℕ, ◌+◌, List, [], ◌∷◌, ◌++◌, length, map, Option, Some, None}
use Rattle.cj_ir.specs.declared.language.Label.{Label}
use Rattle.cj_draft.specs.declared.instructions.VInstr.TheVariants.{Anchor}
use Rattle.cj_draft.specs.declared.code.Back.{Back}
use Rattle.cj_draft.specs.declared.code.Place.{Place}
use Rattle.cj_draft.specs.declared.code.Code.{Code}
use Rattle.cj_draft.specs.declared.passes.Skipped.{Skipped}
use Rattle.cj_draft.specs.declared.passes.Skipped.TheVariants.{NoPlace}
use Rattle.cj_draft.specs.Arrives.{place_at}
use Rattle.cj_draft.specs.Sound.{pair_of}
use Rattle.cj_draft.specs.Edges.{fresh_label, led_to}
use Rattle.cj_draft.specs.Skips.{told}
use Rattle.cj_rows.specs.Edges.{led_place}
use Rattle.cj_rows.specs.Rows.{fresh_row}
use Rattle.cj_rows.specs.Rooms.{room_offence}
use Rattle.cj_rows.specs.Pairs.{AreWith}

-- ---- the conditions

unfoldable pub offence_at : Code → Label → Option Place → Option Skipped
offence_at code label None = Some (NoPlace label)
offence_at code label (Some place) = room_offence (fresh_row code label) (length code.places + 1)

-- why no Anchor stands before the label: the first of the conditions that holds
unfoldable pub anchor_offence : Code → Label → Option Skipped
anchor_offence code label = offence_at code label (place_at code label)

-- ---- an Anchor before a label

unfoldable pub anchor_place : Label → Place → List Back → Place
anchor_place label place backs =
    record { instr = Anchor 0 place.point label; point = place.point; facts = place.facts; backs = backs }

unfoldable pub anchored : Code → Label → Place → List Back → Code
anchored code label place backs =
    record {
      function = code.function;
      regs = code.regs;
      entry = led_to label (fresh_label code) code.entry;
      places = map (led_place (led_to label (fresh_label code))) code.places ++ anchor_place label place backs ∷ [];
    }

-- `made` is the code with a fresh Anchor before the label. There is no other.
pub record IsAnchored (code : Code) (label : Label) (made : Code) : Type 0 where
  pub place : Place
  pub at : place_at code label ≡ Some place
  pub backs : List Back
  pub with_own : AreWith place.backs (pair_of 0 place.point) backs
  pub same : made ≡ anchored code label place backs

-- ---- Anchors before each label of a list

-- from the place `index` of the list on, with these labels left: the code that is made, and the offences with their places
pub data AreAnchored : ℕ → Code → List Label → Code → List (ℕ × Skipped) → Type 0 where
  Finished : (index : ℕ) (code : Code) → AreAnchored index code [] code []
  Placed : (index : ℕ) (code next made : Code) (label : Label) (labels : List Label) (skips : List (ℕ × Skipped)) →
      anchor_offence code label ≡ None → IsAnchored code label next → AreAnchored (index + 1) next labels made skips →
      AreAnchored index code (label ∷ labels) made skips
  Passed : (index : ℕ) (code made : Code) (label : Label) (labels : List Label) (skipped : Skipped) (skips : List (ℕ × Skipped)) →
      anchor_offence code label ≡ Some skipped → AreAnchored (index + 1) code labels made skips →
      AreAnchored index code (label ∷ labels) made ((told index, skipped) ∷ skips)
