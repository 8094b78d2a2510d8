-- The room for a fresh Assume or Anchor.
use Rattle.std.specs.Prelude.{ℕ, Bool, true, false, nat_lt, Option, Some, None}
use Rattle.cj_draft.specs.declared.limits.TheConstants.{MAX_CODE_LABELS, MAX_ROW}
use Rattle.cj_draft.specs.declared.passes.Room.{Room}
use Rattle.cj_draft.specs.declared.passes.Room.TheVariants.{Labels, Row}
use Rattle.cj_draft.specs.declared.passes.Skipped.{Skipped}
use Rattle.cj_draft.specs.declared.passes.Skipped.TheVariants.{Full}

unfoldable pub if_full : Bool → Room → ℕ → Option Skipped → Option Skipped
if_full true room count others = Some (Full room count)
if_full false room count others = others

-- the first limit that a row, or a number of labels, is above
unfoldable pub room_offence : ℕ → ℕ → Option Skipped
room_offence row labels = if_full (nat_lt MAX_ROW row) Row row (if_full (nat_lt MAX_CODE_LABELS labels) Labels labels None)
