-- Lowering: a code without its Anchors and without the labels that no path from its entry reaches.
use Rattle.std.specs.Prelude.{◌≡◌, ◌↔◌, ℕ, zero, suc, Bool, true, false, List, [], ◌∷◌, length, map, take, count_by, Contains, Option, Some, None, slice_get}
use Rattle.cj_draft.specs.declared.limits.TheConstants.{MAX_ROW}
use Rattle.cj_ir.specs.declared.language.Label.{Label}
use Rattle.cj_draft.specs.declared.code.Place.{Place}
use Rattle.cj_draft.specs.declared.code.Code.{Code}
use Rattle.cj_draft.specs.Arrives.{place_at}
use Rattle.cj_draft.specs.Edges.{successors}
use Rattle.cj_rows.specs.Rows.{anchor_at}
use Rattle.cj_rows.specs.Edges.{led_place}

-- ---- past Anchors

unfoldable pub or_on : Option Label → Label → (Label → Label) → Label
or_on None label on = label
or_on (Some next) label on = on next

-- from the label on, the first label that is no Anchor, past at most n Anchors
unfoldable pub past_anchors : Code → ℕ → Label → Label
past_anchors code zero label = label
past_anchors code (suc n) label = or_on (anchor_at code label) label (λ next. past_anchors code n next)

-- from the label on, the first label that is no Anchor: at most 8 Anchors follow each other
unfoldable pub passed : Code → Label → Label
passed code label = past_anchors code MAX_ROW label

-- ---- the labels that are reached

-- The labels on the paths from the entry, where the entry and each edge go past Anchors.
pub data Reached (code : Code) : Label → Type 0 where
  Entry : Reached code (passed code code.entry)
  Edge : (from : Label) (place : Place) (next : Label) →
      Reached code from → place_at code from ≡ Some place → Contains (successors place.instr) next →
      Reached code (passed code next)

-- for each label of the code, whether it is reached
pub record AreKept (code : Code) (kept : List Bool) : Type 0 where
  pub count : length kept ≡ length code.places
  pub reached : (label : Label) → (slice_get kept label.0 ≡ Some true) ↔ Reached code label

-- ---- the lowered code

-- the new number of a kept label: how many kept labels are below it
unfoldable pub renumbered : List Bool → Label → Label
renumbered kept label = record { 0 = count_by (λ keeps. keeps) (take label.0 kept) }

-- where an edge to a label goes: past Anchors, by the new numbers
unfoldable pub led : Code → List Bool → Label → Label
led code kept label = renumbered kept (passed code label)

-- the items that are kept, in their order
unfoldable pub kept_of : {X : Type 0} → List Bool → List X → List X
kept_of [] items = []
kept_of (keeps ∷ kept) [] = []
kept_of (true ∷ kept) (item ∷ items) = item ∷ kept_of kept items
kept_of (false ∷ kept) (item ∷ items) = kept_of kept items

unfoldable pub lowered : Code → List Bool → Code
lowered code kept =
    record {
      function = code.function;
      regs = code.regs;
      entry = led code kept code.entry;
      places = map (led_place (led code kept)) (kept_of kept code.places);
    }

-- `made` is the lowering of the code. There is no other.
pub record IsLowered (code made : Code) : Type 0 where
  pub kept : List Bool
  pub are_kept : AreKept code kept
  pub same : made ≡ lowered code kept
