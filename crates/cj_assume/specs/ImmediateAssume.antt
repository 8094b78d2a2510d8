-- An Assume directly after an Anchor.
use Rattle.std.specs.Prelude.{◌≡◌, ℕ, ◌+◌, List, [], ◌∷◌, ◌++◌, length, Option, Some, None, slice_set}
use Rattle.cj_ir.specs.declared.language.Label.{Label}
use Rattle.cj_ir.specs.declared.language.Guard.{Guard}
use Rattle.cj_draft.specs.declared.points.Point.{Point}
use Rattle.cj_draft.specs.declared.instructions.VInstr.{VInstr}
use Rattle.cj_draft.specs.declared.instructions.VInstr.TheVariants.{Assume, Anchor}
use Rattle.cj_draft.specs.declared.code.Place.{Place}
use Rattle.cj_draft.specs.declared.code.Code.{Code}
use Rattle.cj_draft.specs.declared.passes.Skipped.{Skipped}
use Rattle.cj_draft.specs.declared.passes.Skipped.TheVariants.{NoPlace, NotAnchor}
use Rattle.cj_draft.specs.Arrives.{place_at}
use Rattle.cj_draft.specs.Edges.{fresh_label}
use Rattle.cj_draft.specs.Skips.{unless}
use Rattle.cj_rows.specs.Rows.{fresh_row, anchor_next, anchor_at}
use Rattle.cj_rows.specs.Rooms.{room_offence}
use Rattle.cj_rows.specs.Guards.{or_next, register_offence, guards_offence}
use Rattle.cj_rows.specs.Places.{with_instr, with_places}

-- ---- what stands at a label

unfoldable pub guard_count : VInstr → Option ℕ
guard_count (Assume guards back target next) = Some (length guards)
guard_count instr = None

unfoldable pub count_in : Option Place → Option ℕ
count_in None = None
count_in (Some place) = guard_count place.instr

-- how many guards the Assume at a label has, where there is one
unfoldable pub guards_at : Code → Label → Option ℕ
guards_at code label = count_in (place_at code label)

-- ---- the conditions

-- For that many guards directly after the Anchor at a label: they go to an Assume that has so many already, or else to a
-- fresh one. A fresh one makes the Anchor's row longer by one, as it would directly before the Anchor.
unfoldable pub full_offence : Code → Label → ℕ → Option ℕ → Option Skipped
full_offence code anchor count (Some own) = guards_offence (own + count)
full_offence code anchor count None =
    or_next (guards_offence count) (room_offence (fresh_row code anchor) (length code.places + 1))

unfoldable pub offence_after : Code → Label → List Guard → Option Label → Option Skipped
offence_after code anchor guards None = Some (NotAnchor anchor)
offence_after code anchor guards (Some next) =
    or_next (register_offence code.regs guards) (full_offence code anchor (length guards) (guards_at code next))

unfoldable pub offence_at : Code → Label → List Guard → Option Place → Option Skipped
offence_at code anchor guards None = Some (NoPlace anchor)
offence_at code anchor guards (Some place) = offence_after code anchor guards (anchor_next place.instr)

-- why no Assume with these guards stands directly after the Anchor: the first of the conditions that holds
unfoldable pub assume_offence : Code → Label → List Guard → Option Skipped
assume_offence code anchor guards = offence_at code anchor guards (place_at code anchor)

-- ---- the code that is made

-- an Assume with further guards, after its own
unfoldable pub with_more : List Guard → VInstr → VInstr
with_more more (Assume guards back target next) = Assume (guards ++ more) back target next
with_more more instr = instr

unfoldable pub appended_in : Code → Label → List Guard → Option Place → Code
appended_in code label guards None = code
appended_in code label guards (Some place) =
    with_places code (slice_set code.places label.0 (with_instr (with_more guards place.instr) place))

-- the guards are appended to those of the Assume at a label
unfoldable pub appended : Code → Label → List Guard → Code
appended code label guards = appended_in code label guards (place_at code label)

-- an Anchor that goes on to another label
unfoldable pub anchor_to : Label → VInstr → VInstr
anchor_to next (Anchor back target old) = Anchor back target next
anchor_to next instr = instr

-- the Assume with an Anchor's target, back and next label
unfoldable pub assume_of : List Guard → VInstr → VInstr
assume_of guards (Anchor back target next) = Assume guards back target next
assume_of guards instr = instr

unfoldable pub inserted_in : Code → Label → List Guard → Option Place → Code
inserted_in code anchor guards None = code
inserted_in code anchor guards (Some place) =
    with_places code
    (slice_set code.places anchor.0 (with_instr (anchor_to (fresh_label code) place.instr) place)
    ++ with_instr (assume_of guards place.instr) place ∷ [])

-- The Anchor goes on to a fresh label, where an Assume has the Anchor's target, back and next label. The fresh label has
-- the Anchor's point, facts and pairs.
unfoldable pub inserted : Code → Label → List Guard → Code
inserted code anchor guards = inserted_in code anchor guards (place_at code anchor)

unfoldable pub assumed_by : Code → Label → List Guard → Label → Option ℕ → Code
assumed_by code anchor guards next (Some own) = appended code next guards
assumed_by code anchor guards next None = inserted code anchor guards

unfoldable pub assumed_after : Code → Label → List Guard → Option Label → Code
assumed_after code anchor guards None = code
assumed_after code anchor guards (Some next) = assumed_by code anchor guards next (guards_at code next)

-- the code with the guards assumed directly after the Anchor
unfoldable pub assumed : Code → Label → List Guard → Code
assumed code anchor guards = assumed_after code anchor guards (anchor_at code anchor)

-- the code after the pass: where a condition is against it, the code stays
unfoldable pub assumed_or_left : Code → Label → List Guard → Code
assumed_or_left code anchor guards = unless (assume_offence code anchor guards) code (assumed code anchor guards)

-- `made` is the code after the pass. There is exactly one.
abbrev pub IsAfter : Code → Label → List Guard → Code → Type 0
IsAfter code anchor guards made = made ≡ assumed_or_left code anchor guards

-- an Assume is directly after the Anchor at a label, and its last guards are these
pub record HasGuardsNext (code : Code) (anchor : Label) (guards : List Guard) : Type 0 where
  pub next : Label
  pub after : anchor_at code anchor ≡ Some next
  pub place : Place
  pub at : place_at code next ≡ Some place
  pub own : List Guard
  pub number : ℕ
  pub target : Point
  pub on : Label
  pub instr : place.instr ≡ Assume (own ++ guards) number target on
