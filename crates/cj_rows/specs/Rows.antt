-- Rows of Assumes and Anchors. At most 8 follow each other in a sound code.
use Rattle.std.specs.Prelude.{ℕ, zero, suc, ◌+◌, max, Bool, true, false, nat_eq, length, Option, Some, None}
use Rattle.cj_draft.specs.declared.limits.TheConstants.{MAX_ROW}
use Rattle.cj_ir.specs.declared.language.Label.{Label}
use Rattle.cj_draft.specs.declared.instructions.VInstr.{VInstr}
use Rattle.cj_draft.specs.declared.instructions.VInstr.TheVariants.{Anchor}
use Rattle.cj_draft.specs.declared.code.Place.{Place}
use Rattle.cj_draft.specs.declared.code.Code.{Code}
use Rattle.cj_draft.specs.Arrives.{place_at}
use Rattle.cj_draft.specs.Sound.{guard_next}

unfoldable pub guard_in : Option Place → Option Label
guard_in None = None
guard_in (Some place) = guard_next place.instr

-- the next label of the Assume or Anchor at a label, where there is one
unfoldable pub guard_at : Code → Label → Option Label
guard_at code label = guard_in (place_at code label)

-- the next label of an Anchor
unfoldable pub anchor_next : VInstr → Option Label
anchor_next (Anchor back target next) = Some next
anchor_next instr = None

unfoldable pub anchor_in : Option Place → Option Label
anchor_in None = None
anchor_in (Some place) = anchor_next place.instr

-- the next label of the Anchor at a label, where there is one
unfoldable pub anchor_at : Code → Label → Option Label
anchor_at code label = anchor_in (place_at code label)

unfoldable pub one_more : Option Label → (Label → ℕ) → ℕ
one_more None count = 0
one_more (Some next) count = suc (count next)

-- how many Assumes and Anchors follow each other from the label on, of the first n
unfoldable pub guards_after : Code → ℕ → Label → ℕ
guards_after code zero label = 0
guards_after code (suc n) label = one_more (guard_at code label) (λ next. guards_after code n next)

unfoldable pub one_step : Option ℕ → Option ℕ
one_step None = None
one_step (Some steps) = Some (suc steps)

unfoldable pub step_on : Option Label → (Label → Option ℕ) → Option ℕ
step_on None steps = None
step_on (Some next) steps = one_step (steps next)

unfoldable pub here_or : Bool → Option ℕ → Option ℕ
here_or true steps = Some 0
here_or false steps = steps

-- how many Assumes and Anchors, of at most n, lead from a label to this one
unfoldable pub steps_to : Code → Label → ℕ → Label → Option ℕ
steps_to code label zero from = here_or (nat_eq from.0 label.0) None
steps_to code label (suc n) from =
    here_or (nat_eq from.0 label.0) (step_on (guard_at code from) (λ next. steps_to code label n next))

unfoldable pub or_none : Option ℕ → ℕ
or_none None = 0
or_none (Some n) = n

-- the greatest of the numbers that `f` gives for the labels below n
unfoldable pub greatest : (Label → ℕ) → ℕ → ℕ
greatest f zero = 0
greatest f (suc n) = max (greatest f n) (f (record { 0 = n }))

-- the greatest number of Assumes and Anchors that lead from a label to this one
unfoldable pub guards_before : Code → Label → ℕ
guards_before code label = greatest (λ from. or_none (steps_to code label MAX_ROW from)) (length code.places)

-- the row of a fresh Assume or Anchor before the label: those that lead to the label, itself, and those that follow
unfoldable pub fresh_row : Code → Label → ℕ
fresh_row code label = guards_before code label + 1 + guards_after code MAX_ROW label
