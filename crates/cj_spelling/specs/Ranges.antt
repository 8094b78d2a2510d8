-- The ranges of what a code in words may name, and how many of each there may be.
use Rattle.std.specs.Prelude.{◌≡◌, ℕ, ◌<◌, ◌≤◌, List, [], ◌∷◌, length, All}
use Rattle.cj_ir.specs.Values.{IsOperandWithin, IsExprWithin}
use Rattle.cj_draft.specs.WellNamed.{IsGuardWithin, ArePairsFine, HasFineFacts}
use Rattle.cj_ir.specs.declared.limits.TheConstants.{MAX_FUNCTIONS, MAX_PARAMS, MAX_REGS, MAX_LABELS}
use Rattle.cj_draft.specs.declared.limits.TheConstants.{MAX_CODE_REGS, MAX_CODE_LABELS, MAX_FRAMES, MAX_GUARDS, MAX_BACK}
use Rattle.cj_draft.specs.declared.points.PointFrame.{PointFrame}
use Rattle.cj_draft.specs.declared.points.Point.{Point}
use Rattle.cj_draft.specs.declared.instructions.VInstr.{VInstr}
use Rattle.cj_draft.specs.declared.instructions.VInstr.TheVariants.{Nop, Op, Move, Cond, Call, Return, Print, Load, Store, Fail, Assume, Anchor}
use Rattle.cj_draft.specs.declared.code.Back.{Back}
use Rattle.cj_draft.specs.declared.code.Place.{Place}
use Rattle.cj_draft.specs.declared.code.Code.{Code}

-- functions, base labels, destinations and operands of frames are below the limits of programs
pub record IsFrameInRange (regs : ℕ) (f : PointFrame) : Type 0 where
  pub function : f.function.0 < MAX_FUNCTIONS
  pub label : f.label.0 < MAX_LABELS
  pub dest : f.dest.0 < MAX_REGS
  pub few_operands : length f.map ≤ MAX_REGS
  pub operands : All (IsOperandWithin regs) f.map

-- there is a first frame, and its destination is 0
abbrev pub HasPlainTop : List PointFrame → Type 0
HasPlainTop [] = ⊥
HasPlainTop (first ∷ others) = first.dest.0 ≡ 0

-- one to four frames
pub record IsPointInRange (regs : ℕ) (point : Point) : Type 0 where
  pub few_frames : length point.frames ≤ MAX_FRAMES
  pub frames : All (IsFrameInRange regs) point.frames
  pub top : HasPlainTop point.frames

-- No anchor is in range.
abbrev pub IsInstrInRange : ℕ → ℕ → VInstr → Type 0
IsInstrInRange regs labels (Nop next) = next.0 < labels
IsInstrInRange regs labels (Op dest expr next) = (dest.0 < regs) × IsExprWithin regs expr × (next.0 < labels)
IsInstrInRange regs labels (Move pairs next) =
    (length pairs ≤ MAX_CODE_REGS) × ArePairsFine regs pairs × (next.0 < labels)
IsInstrInRange regs labels (Cond test then_to else_to) =
    IsOperandWithin regs test × (then_to.0 < labels) × (else_to.0 < labels)
IsInstrInRange regs labels (Call dest f args next) =
    (dest.0 < regs) × (f.0 < MAX_FUNCTIONS) × (length args ≤ MAX_PARAMS) × All (IsOperandWithin regs) args × (next.0 < labels)
IsInstrInRange regs labels (Return value) = IsOperandWithin regs value
IsInstrInRange regs labels (Print value next) = IsOperandWithin regs value × (next.0 < labels)
IsInstrInRange regs labels (Load dest address next) =
    (dest.0 < regs) × IsOperandWithin regs address × (next.0 < labels)
IsInstrInRange regs labels (Store address value next) =
    IsOperandWithin regs address × IsOperandWithin regs value × (next.0 < labels)
IsInstrInRange regs labels (Fail f label) = (f.0 < MAX_FUNCTIONS) × (label.0 < MAX_LABELS)
IsInstrInRange regs labels (Assume guards back target next) =
    (length guards ≤ MAX_GUARDS) × All (IsGuardWithin regs) guards × (back ≤ MAX_BACK) × IsPointInRange regs target × (next.0 < labels)
IsInstrInRange regs labels (Anchor back target next) = ⊥

pub record IsBackInRange (regs : ℕ) (pair : Back) : Type 0 where
  pub few_turns : pair.turns ≤ MAX_BACK
  pub point : IsPointInRange regs pair.point

pub record IsPlaceInRange (regs labels : ℕ) (place : Place) : Type 0 where
  pub instr : IsInstrInRange regs labels place.instr
  pub point : IsPointInRange regs place.point
  pub facts : HasFineFacts regs place.facts
  pub backs : All (IsBackInRange regs) place.backs

pub record IsInRange (code : Code) : Type 0 where
  pub function : code.function.0 < MAX_FUNCTIONS
  pub few_regs : code.regs ≤ MAX_CODE_REGS
  pub few_places : length code.places ≤ MAX_CODE_LABELS
  pub entry : code.entry.0 < length code.places
  pub places : All (IsPlaceInRange code.regs (length code.places)) code.places
