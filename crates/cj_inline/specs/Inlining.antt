-- A callee's code in the place of a call.
use Rattle.std.specs.Prelude.{◌≡◌, ℕ, ◌+◌, max, Bool, true, false, nat_lt, nat_eq, List, [], ◌∷◌, ◌++◌, length, map, Option, Some, None, slice_set}
use Rattle.cj_draft.specs.declared.limits.TheConstants.{MAX_CODE_REGS, MAX_CODE_LABELS, MAX_FRAMES}
use Rattle.cj_ir.specs.declared.language.FunId.{FunId}
use Rattle.cj_ir.specs.declared.language.Label.{Label}
use Rattle.cj_ir.specs.declared.language.Reg.{Reg}
use Rattle.cj_ir.specs.declared.language.Program.{Program}
use Rattle.cj_draft.specs.declared.facts.Facts.{Facts}
use Rattle.cj_draft.specs.declared.facts.Facts.TheVariants.{Unreached, Known}
use Rattle.cj_draft.specs.declared.instructions.VInstr.{VInstr}
use Rattle.cj_draft.specs.declared.instructions.VInstr.TheVariants.{Call, Assume, Anchor}
use Rattle.cj_draft.specs.declared.code.Back.{Back}
use Rattle.cj_draft.specs.declared.code.Place.{Place}
use Rattle.cj_draft.specs.declared.code.Code.{Code}
use Rattle.cj_draft.specs.declared.passes.Room.TheVariants.{Registers, Labels}
use Rattle.cj_draft.specs.declared.passes.Skipped.{Skipped}
use Rattle.cj_draft.specs.declared.passes.Skipped.TheVariants.{NoPlace, NotCall, Other, Deep}
use Rattle.cj_draft.specs.Arrives.{place_at}
use Rattle.cj_draft.specs.Inlining.{shift_label, joined, inlined_instr, joined_facts, appended_frames, call_place}
use Rattle.cj_draft.specs.Skips.{unless}
use Rattle.cj_rows.specs.Rooms.{if_full}
use Rattle.cj_inline.specs.declared.seams.Seam.{Seam}

-- ---- how many frames a code's points have

unfoldable pub greatest_of : {X : Type 0} → (X → ℕ) → List X → ℕ
greatest_of f [] = 0
greatest_of f (x ∷ xs) = max (f x) (greatest_of f xs)

unfoldable pub target_frames : VInstr → ℕ
target_frames (Assume guards back target next) = length target.frames
target_frames (Anchor back target next) = length target.frames
target_frames instr = 0

unfoldable pub back_frames : Back → ℕ
back_frames pair = length pair.point.frames

-- the greatest number of frames of a place's point, target and pairs
unfoldable pub place_frames : Place → ℕ
place_frames place =
    max (length place.point.frames) (max (target_frames place.instr) (greatest_of back_frames place.backs))

unfoldable pub most_frames : List Place → ℕ
most_frames places = greatest_of place_frames places

-- ---- the conditions

unfoldable pub called_by : VInstr → Option FunId
called_by (Call dest f args next) = Some f
called_by instr = None

unfoldable pub if_reached : Facts → Option FunId → Option FunId
if_reached Unreached called = None
if_reached (Known facts) called = called

-- the function that a place calls, where a run may come to it
unfoldable pub called : Place → Option FunId
called place = if_reached place.facts (called_by place.instr)

unfoldable pub called_in : Option Place → Option FunId
called_in None = None
called_in (Some place) = called place

-- the function that is called at a label, where a run may come to it
unfoldable pub called_at : Code → Label → Option FunId
called_at code call = called_in (place_at code call)

unfoldable pub if_other : Bool → FunId → Option Skipped → Option Skipped
if_other true f others = others
if_other false f others = Some (Other f)

unfoldable pub if_deep : Bool → ℕ → Option Skipped → Option Skipped
if_deep true frames others = Some (Deep frames)
if_deep false frames others = others

-- so many registers, and then so many labels, are too many
unfoldable pub full_offence : ℕ → ℕ → Option Skipped
full_offence regs labels =
    if_full (nat_lt MAX_CODE_REGS regs) Registers regs (if_full (nat_lt MAX_CODE_LABELS labels) Labels labels None)

-- so many frames are too many, and then those
unfoldable pub room_offence : ℕ → ℕ → ℕ → Option Skipped
room_offence frames regs labels = if_deep (nat_lt MAX_FRAMES frames) frames (full_offence regs labels)

-- the conditions for the callee at a place that calls f
unfoldable pub callee_offence : Code → Code → Place → FunId → Option Skipped
callee_offence code callee place f =
    if_other (nat_eq callee.function.0 f.0) f
    (room_offence (length place.point.frames + most_frames callee.places) (code.regs + callee.regs) (length code.places + length callee.places))

unfoldable pub offence_by : Code → Label → Code → Place → Option FunId → Option Skipped
offence_by code call callee place None = Some (NotCall call)
offence_by code call callee place (Some f) = callee_offence code callee place f

unfoldable pub offence_at : Code → Label → Code → Option Place → Option Skipped
offence_at code call callee None = Some (NoPlace call)
offence_at code call callee (Some place) = offence_by code call callee place (called place)

-- why the callee does not stand in the place of the call: the first of the conditions that holds
unfoldable pub inline_offence : Code → Label → Code → Option Skipped
inline_offence code call callee = offence_at code call callee (place_at code call)

-- ---- the code that is made

unfoldable pub inlined_back : Seam → Back → Back
inlined_back seam pair = record { turns = pair.turns; point = joined seam.regs seam.frames pair.point }

-- A callee's place in the caller. Its registers and labels are shifted, the caller's frames follow those of its points, and
-- what is known at the call is known there.
unfoldable pub inlined_place : Seam → Place → Place
inlined_place seam place =
    record {
      instr = inlined_instr seam.regs seam.labels seam.frames seam.dest seam.next place.instr;
      point = joined seam.regs seam.frames place.point;
      facts = joined_facts seam.regs seam.facts place.facts;
      backs = map (inlined_back seam) place.backs;
    }

-- where the callee of a call at this place stands
unfoldable pub seam_at : Program → Code → Place → Reg → Label → Seam
seam_at P code place dest next =
    record {
      regs = code.regs;
      labels = length code.places;
      frames = appended_frames P place.point.frames;
      facts = place.facts;
      dest = dest;
      next = next;
    }

-- The callee's places follow those of the code, with registers of their own. The place of the call is a move to the
-- callee's entry.
unfoldable pub inlined_by : Program → Code → Label → Code → Place → VInstr → Code
inlined_by P code call callee place (Call dest f args next) =
    record {
      function = code.function;
      regs = code.regs + callee.regs;
      entry = code.entry;
      places =
          slice_set code.places call.0 (call_place code.regs callee.regs (shift_label (length code.places) callee.entry) args place)
          ++ map (inlined_place (seam_at P code place dest next)) callee.places;
    }
inlined_by P code call callee place instr = code

unfoldable pub inlined_at : Program → Code → Label → Code → Option Place → Code
inlined_at P code call callee None = code
inlined_at P code call callee (Some place) = inlined_by P code call callee place place.instr

-- the code with the callee in the place of the call
unfoldable pub inlined : Program → Code → Label → Code → Code
inlined P code call callee = inlined_at P code call callee (place_at code call)

-- the code after the pass: where a condition is against it, the code stays
unfoldable pub inlined_or_left : Program → Code → Label → Code → Code
inlined_or_left P code call callee = unless (inline_offence code call callee) code (inlined P code call callee)

-- `made` is the code after the pass. There is exactly one.
abbrev pub IsAfter : Program → Code → Label → Code → Code → Type 0
IsAfter P code call callee made = made ≡ inlined_or_left P code call callee
