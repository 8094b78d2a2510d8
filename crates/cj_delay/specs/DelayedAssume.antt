-- An Assume on the last edge of a path that an Anchor begins.
use Rattle.std.specs.Prelude.{◌≡◌, ◌≢◌, ℕ, zero, suc, ◌+◌, ◌-◌, ◌<◌, ◌⊎◌, Bool, true, false, not, ◌&&◌, nat_lt, nat_le, nat_eq, cond, List, [], ◌∷◌, ◌++◌}
use Rattle.std.specs.Prelude.{length, take, drop, count_by, Option, Some, None, slice_get, slice_set, slice_index_or}
use Rattle.std.specs.List.{list_any}
use Rattle.cj_draft.specs.declared.limits.TheConstants.{MAX_BACK}
use Rattle.cj_ir.specs.declared.language.Label.{Label}
use Rattle.cj_ir.specs.declared.language.Guard.{Guard}
use Rattle.cj_ir.specs.declared.language.Program.{Program}
use Rattle.cj_ir.specs.declared.language.Instr.{Instr}
use Rattle.cj_ir.specs.declared.language.Instr.TheVariants as base
use Rattle.cj_ir.specs.Program.{instr_at}
use Rattle.cj_draft.specs.declared.points.PointFrame.{PointFrame}
use Rattle.cj_draft.specs.declared.points.Point.{Point}
use Rattle.cj_draft.specs.declared.instructions.VInstr.{VInstr}
use Rattle.cj_draft.specs.declared.instructions.VInstr.TheVariants.{Nop, Cond, Assume, Anchor}
use Rattle.cj_draft.specs.declared.code.Back.{Back}
use Rattle.cj_draft.specs.declared.code.Place.{Place}
use Rattle.cj_draft.specs.declared.code.Code.{Code}
use Rattle.cj_draft.specs.declared.passes.Skipped.{Skipped}
use Rattle.cj_draft.specs.declared.passes.Skipped.TheVariants.{NoPlace, NotAnchor, NoEdge, NotSilent, Joined, TooLong}
use Rattle.cj_draft.specs.Arrives.{place_at}
use Rattle.cj_draft.specs.Sound.{pair_of}
use Rattle.cj_draft.specs.Edges.{successors, led_to, fresh_label}
use Rattle.cj_draft.specs.Skips.{told}
use Rattle.cj_rows.specs.Rows.{fresh_row}
use Rattle.cj_rows.specs.Rooms.{room_offence}
use Rattle.cj_rows.specs.Pairs.{AreWith}
use Rattle.cj_rows.specs.Guards.{or_next, if_missing, register_offence, guards_offence}
use Rattle.cj_rows.specs.Places.{with_instr}

-- ---- edges

unfoldable pub is_label : Label → Label → Bool
is_label label other = nat_eq other.0 label.0

-- where the edges of the places go, one for each successor that an instruction names
unfoldable pub all_nexts : List Place → List Label
all_nexts [] = []
all_nexts (place ∷ places) = successors place.instr ++ all_nexts places

-- how many edges go into a label, and the start counts as one into the entry
unfoldable pub edges_into : Code → Label → ℕ
edges_into code label =
    count_by (is_label label) (all_nexts code.places) + cond (is_label label code.entry) 1 0

-- ---- what passes in silence

unfoldable pub is_silent : Option Instr → Bool
is_silent (Some (base.Nop next)) = true
is_silent (Some (base.Cond test then_to else_to)) = true
is_silent instr = false

unfoldable pub base_in : Program → List PointFrame → Option Instr
base_in P [] = None
base_in P (top ∷ others) = instr_at P top.function top.label

-- the base instruction at a point
unfoldable pub base_at : Program → Point → Option Instr
base_at P point = base_in P point.frames

-- a Nop or Cond
unfoldable pub is_turn : VInstr → Bool
is_turn (Nop next) = true
is_turn (Cond test then_to else_to) = true
is_turn instr = false

-- an Assume or Anchor, or a Nop or Cond at whose point the base instruction is a nop or cond
unfoldable pub is_passed : Program → Point → VInstr → Bool
is_passed P point (Nop next) = is_silent (base_at P point)
is_passed P point (Cond test then_to else_to) = is_silent (base_at P point)
is_passed P point (Assume guards back target next) = true
is_passed P point (Anchor back target next) = true
is_passed P point instr = false

unfoldable pub passed_in : Program → Option Place → Bool
passed_in P None = false
passed_in P (Some place) = is_passed P place.point place.instr

unfoldable pub turn_in : Option Place → Bool
turn_in None = false
turn_in (Some place) = is_turn place.instr

-- a label holds a Nop or Cond
unfoldable pub turn_at : Code → Label → Bool
turn_at code label = turn_in (place_at code label)

-- ---- paths

-- the label of that number of a path
unfoldable pub on_path : List Label → ℕ → Label
on_path path at = slice_index_or path at (record { 0 = 0 })

-- how many Nops and Conds stand between the first label of a path and that number
unfoldable pub turns_before : Code → List Label → ℕ → ℕ
turns_before code path at = count_by (turn_at code) (drop 1 (take at path))

unfoldable pub nexts_in : Option Place → List Label
nexts_in None = []
nexts_in (Some place) = successors place.instr

-- a label is a successor of the one before it, and does not stand earlier in the path
unfoldable pub is_edge : Code → List Label → ℕ → Bool
is_edge code path at =
    list_any (is_label (on_path path at)) (nexts_in (place_at code (on_path path (at - 1))))
    && not (list_any (is_label (on_path path at)) (take at path))

unfoldable pub joined_offence : Label → ℕ → Option Skipped
joined_offence label count = if_missing (nat_eq count 1) (Joined label (told count))

unfoldable pub silent_offence : Program → Code → Label → Bool → Option Skipped
silent_offence P code label true = None
silent_offence P code label false = if_missing (passed_in P (place_at code label)) (NotSilent label)

-- why the path does not go on to its label of that number
unfoldable pub step_offence : Program → Code → List Label → ℕ → Option Skipped
step_offence P code path at =
    or_next (if_missing (is_edge code path at) (NoEdge (on_path path at)))
    (or_next (joined_offence (on_path path at) (edges_into code (on_path path at)))
    (silent_offence P code (on_path path at) (nat_eq (suc at) (length path))))

-- the first offence of n steps, from that number on
unfoldable pub steps_offence : Program → Code → List Label → ℕ → ℕ → Option Skipped
steps_offence P code path zero at = None
steps_offence P code path (suc n) at = or_next (step_offence P code path at) (steps_offence P code path n (suc at))

-- the number of turns that an Assume at the end of the path takes back
unfoldable pub turns_back : Code → List Label → ℕ → ℕ
turns_back code path number = number + turns_before code path (length path - 1)

unfoldable pub long_offence : ℕ → Option Skipped
long_offence count = if_missing (nat_le count MAX_BACK) (TooLong (told count))

-- where the path's last label is `last`, and an Assume there takes so many turns back
unfoldable pub end_offence : Code → Label → List Guard → ℕ → Option Skipped
end_offence code last guards back =
    or_next (long_offence back)
    (or_next (register_offence code.regs guards)
    (or_next (guards_offence (length guards)) (room_offence (fresh_row code last) (length code.places + 1))))

unfoldable pub anchor_number : VInstr → Option ℕ
anchor_number (Anchor back target next) = Some back
anchor_number instr = None

unfoldable pub offence_from : Program → Code → List Label → List Guard → Option ℕ → Option Skipped
offence_from P code path guards None = Some (NotAnchor (on_path path 0))
offence_from P code path guards (Some number) =
    or_next (steps_offence P code path (length path - 1) 1)
    (end_offence code (on_path path (length path - 1)) guards (turns_back code path number))

unfoldable pub offence_on : Program → Code → List Label → List Guard → Option Place → Option Skipped
offence_on P code path guards None = Some (NoPlace (on_path path 0))
offence_on P code path guards (Some place) = offence_from P code path guards (anchor_number place.instr)

-- the first of the labels that is not in the draft
unfoldable pub missing_offence : Code → List Label → Option Skipped
missing_offence code [] = None
missing_offence code (label ∷ labels) =
    or_next (if_missing (nat_lt label.0 (length code.places)) (NoPlace label)) (missing_offence code labels)

-- why no Assume with these guards stands at the end of the path: the first of the conditions that holds
unfoldable pub delay_offence : Program → Code → List Label → List Guard → Option Skipped
delay_offence P code path guards =
    or_next (if_missing (nat_lt 1 (length path)) (NoEdge (on_path path 0)))
    (or_next (missing_offence code path) (offence_on P code path guards (place_at code (on_path path 0))))

-- ---- the code that is made

unfoldable pub with_backs : List Back → Place → Place
with_backs backs place = record { instr = place.instr; point = place.point; facts = place.facts; backs = backs }

-- the pair that a path's label of that number gets, behind an Anchor with that target and number
unfoldable pub path_pair : Code → List Label → Point → ℕ → ℕ → Back
path_pair code path target number at = pair_of (number + turns_before code path at) target

-- The places in which each label of the path from the second on, up to a number, has its pair, where it was missing. All
-- else is as it was.
pub record AreMarked (code : Code) (path : List Label) (target : Point) (number upto : ℕ) (places : List Place) : Type 0 where
  pub count : length places ≡ length code.places
  pub marked : (at : ℕ) (place : Place) → 0 < at → at < upto → place_at code (on_path path at) ≡ Some place →
      (backs : List Back) × AreWith place.backs (path_pair code path target number at) backs
      × (slice_get places (on_path path at).0 ≡ Some (with_backs backs place))
  pub others : (label : Label) → ((at : ℕ) → 0 < at → at < upto → on_path path at ≢ label) →
      slice_get places label.0 ≡ place_at code label

-- a Nop, Cond, Assume or Anchor whose edges to the label go to the fresh one
unfoldable pub led_edge : Label → Label → VInstr → VInstr
led_edge label fresh (Nop next) = Nop (led_to label fresh next)
led_edge label fresh (Cond test then_to else_to) = Cond test (led_to label fresh then_to) (led_to label fresh else_to)
led_edge label fresh (Assume guards back target next) = Assume guards back target (led_to label fresh next)
led_edge label fresh (Anchor back target next) = Anchor back target (led_to label fresh next)
led_edge label fresh instr = instr

unfoldable pub fresh_place : VInstr → Place → List Back → Place
fresh_place instr last backs = record { instr = instr; point = last.point; facts = last.facts; backs = backs }

-- the edge from `before` into `last` is led to a fresh place
unfoldable pub delayed : Code → List Place → Label → Label → Place → Place → Code
delayed code places before last from fresh =
    record {
      function = code.function;
      regs = code.regs;
      entry = code.entry;
      places = slice_set places before.0 (with_instr (led_edge last (fresh_label code) from.instr) from) ++ fresh ∷ [];
    }

-- `made` is the code with a fresh Assume on the path's last edge: it has the Anchor's target, the turns between, and the
-- point and the facts of the path's last label. Each label between the Anchor and the Assume gets its pair.
pub record IsDelayed (code : Code) (path : List Label) (guards : List Guard) (made : Code) : Type 0 where
  pub anchor : Place
  pub number : ℕ
  pub target : Point
  pub next : Label
  pub at_first : place_at code (on_path path 0) ≡ Some anchor
  pub is_anchor : anchor.instr ≡ Anchor number target next
  pub places : List Place
  pub are_marked : AreMarked code path target number (length path - 1) places
  pub from : Place
  pub at_from : slice_get places (on_path path (length path - 2)).0 ≡ Some from
  pub last : Place
  pub at_last : place_at code (on_path path (length path - 1)) ≡ Some last
  pub backs : List Back
  pub with_pair : AreWith last.backs (path_pair code path target number (length path - 1)) backs
  pub same : made ≡ delayed code places (on_path path (length path - 2)) (on_path path (length path - 1)) from
      (fresh_place (Assume guards (turns_back code path number) target (on_path path (length path - 1))) last backs)

-- `made` is the code after the pass: where a condition is against it, the code stays. There is no other.
abbrev pub IsAfterDelay : Program → Code → List Label → List Guard → Code → Type 0
IsAfterDelay P code path guards made =
    ((delay_offence P code path guards ≡ None) × IsDelayed code path guards made)
    ⊎ ((skipped : Skipped) × (delay_offence P code path guards ≡ Some skipped) × (made ≡ code))
