-- Codes for the tests, over 4 registers and 16 labels. Their first instruction is a store that fails, so no run comes behind it.
use Rattle.std.specs.Prelude.{◌≡◌, ℕ, Bool, true, List, [], ◌∷◌, length, All, Option, Some, None, slice_get}
use Rattle.std.specs.List.{list_all}
use Rattle.std.specs.Option.{is_none}
use Rattle.cj_ir.specs.declared.language.Label.{Label}
use Rattle.cj_ir.specs.declared.language.Program.{Program}
use Rattle.cj_draft.specs.declared.points.Point.{Point}
use Rattle.cj_draft.specs.declared.facts.Facts.TheVariants.{Unreached, Known}
use Rattle.cj_draft.specs.declared.instructions.VInstr.{VInstr}
use Rattle.cj_draft.specs.declared.code.Place.{Place}
use Rattle.cj_draft.specs.WellNamed.{IsPointFine, IsVInstrFine}
use Rattle.cj_draft.specs.Sound.{guard_next}
use Rattle.cj_test_passes.specs.ByHand.{failing, place}

-- over a fine point all that the instruction names exists
abbrev pub IsNamedOver : Point → VInstr → Type 0
IsNamedOver point instr = (P : Program) → IsPointFine P 4 point → IsVInstrFine P 4 16 instr

-- nothing comes to the place
pub record IsDead (point : Point) (dead : Place) : Type 0 where
  pub instr : VInstr
  pub named : IsNamedOver point instr
  pub is : dead ≡ place point Unreached instr

-- the store, and so many places to which nothing comes
pub record AreBehind (point : Point) (count : ℕ) (places : List Place) : Type 0 where
  pub rest : List Place
  pub dead : All (IsDead point) rest
  pub many : length rest ≡ count
  pub are : places ≡ place point (Known []) failing ∷ rest

-- ---- rows

unfoldable pub is_free : Option Place → Bool
is_free None = true
is_free (Some place) = is_none (guard_next place.instr)

unfoldable pub ends_by : List Place → Option Label → Bool
ends_by places None = true
ends_by places (Some next) = is_free (slice_get places next.0)

-- no Assume or Anchor goes on to another
unfoldable pub are_ended : List Place → Bool
are_ended places = list_all (λ place. ends_by places (guard_next place.instr)) places
