-- The limits that are kept where there is room.
use Rattle.std.proofs.Common.{◌≡◌, ℕ, ◌≤◌, Bool, true, false, nat_lt, Option, None, refl, sym}
use Rattle.std.proofs.lemmas.Option.{none-some}
use Rattle.std.proofs.lemmas.Bool.{ltb-false}
use Rattle.cj_draft.specs.declared.passes.Room.{Room}
use Rattle.cj_draft.specs.declared.passes.Skipped.{Skipped}
use Rattle.cj_draft.specs.declared.passes.Skipped.TheVariants.{Full}
use Rattle.cj_rows.specs.Rooms.{if_full, room_offence}

pub not_full : (b : Bool) (room : Room) (count : ℕ) (others : Option Skipped) → if_full b room count others ≡ None → (b ≡ false) × (others ≡ None)
unfolding if_full
not_full true room count others e = absurd (none-some (Full room count) (sym e))
not_full false room count others e = (refl, e)

pub has_room : (row labels : ℕ) → room_offence row labels ≡ None → (row ≤ 8) × (labels ≤ 512)
unfolding room_offence
has_room row labels none =
    let short = not_full (nat_lt 8 row) _ _ _ none in
    let few = not_full (nat_lt 512 labels) _ _ _ short.1 in
    (ltb-false 8 row short.0, ltb-false 512 labels few.0)
