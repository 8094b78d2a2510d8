-- The structural half of soundness: all that a code names exists, and its limits hold. It binds at every place, also
-- where nothing arrives.
use Rattle.std.specs.Prelude.{◌≡◌, ℕ, ◌<◌, ◌≤◌, List, [], ◌∷◌, length, map, All, ⊤, Option, Some, slice_get, IsSomeAnd}
use Rattle.std.specs.List.Sorted.{IsStrictlyIncreasing}
use Rattle.cj_ir.specs.Values.{IsOperandWithin, IsExprWithin}
use Rattle.cj_ir.specs.WellFormed.{Takes, AllDifferBy}
use Rattle.cj_draft.specs.declared.limits.TheConstants.{MAX_CODE_REGS, MAX_CODE_LABELS, MAX_FRAMES, MAX_GUARDS, MAX_BACK}
use Rattle.cj_ir.specs.declared.language.FunId.{FunId}
use Rattle.cj_ir.specs.declared.language.Program.{Program}
use Rattle.cj_ir.specs.declared.language.Guard.{Guard}
use Rattle.cj_ir.specs.declared.language.Guard.TheVariants.{Is, Never}
use Rattle.cj_ir.specs.declared.language.Instr.{Instr}
use Rattle.cj_ir.specs.declared.language.Instr.TheVariants as base
use Rattle.cj_ir.specs.Program.{instr_at, reg_count, label_count}
use Rattle.cj_draft.specs.declared.points.PointFrame.{PointFrame}
use Rattle.cj_draft.specs.declared.points.Point.{Point}
use Rattle.cj_draft.specs.declared.facts.Fact.{Fact}
use Rattle.cj_draft.specs.declared.facts.Facts.{Facts}
use Rattle.cj_draft.specs.declared.facts.Facts.TheVariants.{Unreached, Known}
use Rattle.cj_draft.specs.declared.instructions.Pair.{Pair}
use Rattle.cj_draft.specs.declared.instructions.VInstr.{VInstr}
use Rattle.cj_draft.specs.declared.instructions.VInstr.TheVariants.{Nop, Op, Move, Cond, Call, Return, Print, Load, Store, Fail, Assume, Anchor}
use Rattle.cj_draft.specs.declared.code.Back.{Back}
use Rattle.cj_draft.specs.declared.code.Place.{Place}
use Rattle.cj_draft.specs.declared.code.Code.{Code}

-- ---- points

-- a map has one operand for each register of its base function
abbrev pub IsWholeMap : Program → PointFrame → Type 0
IsWholeMap P f = length f.map ≡ reg_count P f.function

-- the function exists with the label, and the map reads registers below the count
pub record IsPointFrameFine (P : Program) (regs : ℕ) (f : PointFrame) : Type 0 where
  pub label_within : f.label.0 < label_count P f.function
  pub whole_map : IsWholeMap P f
  pub operands : All (IsOperandWithin regs) f.map

-- the first frame has destination 0, and each further frame a register of its function
abbrev pub AreDestsFine : Program → List PointFrame → Type 0
AreDestsFine P [] = ⊤
AreDestsFine P (first ∷ others) = (first.dest.0 ≡ 0) × All (λ f. f.dest.0 < reg_count P f.function) others

pub record IsPointFine (P : Program) (regs : ℕ) (point : Point) : Type 0 where
  pub some_frame : 0 < length point.frames
  pub few_frames : length point.frames ≤ MAX_FRAMES
  pub frames : All (IsPointFrameFine P regs) point.frames
  pub dests : AreDestsFine P point.frames

-- ---- instructions

abbrev pub IsGuardWithin : ℕ → Guard → Type 0
IsGuardWithin regs (Is reg value) = reg.0 < regs
IsGuardWithin regs Never = ⊤

-- the destinations are registers and differ, and the operands read registers
pub record ArePairsFine (regs : ℕ) (pairs : List Pair) : Type 0 where
  pub dests : All (λ pair. pair.dest.0 < regs) pairs
  pub differ : AllDifferBy (λ pair. pair.dest) pairs
  pub operands : All (λ pair. IsOperandWithin regs pair.value) pairs

abbrev pub IsFailure : Option Instr → Type 0
IsFailure (Some (base.Fail text)) = ⊤
IsFailure instr = ⊥

-- all that an instruction names exists, in a code with that many registers and labels
abbrev pub IsVInstrFine : Program → ℕ → ℕ → VInstr → Type 0
IsVInstrFine P regs labels (Nop next) = next.0 < labels
IsVInstrFine P regs labels (Op dest expr next) = (dest.0 < regs) × IsExprWithin regs expr × (next.0 < labels)
IsVInstrFine P regs labels (Move pairs next) = ArePairsFine regs pairs × (next.0 < labels)
IsVInstrFine P regs labels (Cond test then_to else_to) =
    IsOperandWithin regs test × (then_to.0 < labels) × (else_to.0 < labels)
IsVInstrFine P regs labels (Call dest f args next) =
    (dest.0 < regs) × Takes P.functions f (length args) × All (IsOperandWithin regs) args × (next.0 < labels)
IsVInstrFine P regs labels (Return value) = IsOperandWithin regs value
IsVInstrFine P regs labels (Print value next) = IsOperandWithin regs value × (next.0 < labels)
IsVInstrFine P regs labels (Load dest address next) =
    (dest.0 < regs) × IsOperandWithin regs address × (next.0 < labels)
IsVInstrFine P regs labels (Store address value next) =
    IsOperandWithin regs address × IsOperandWithin regs value × (next.0 < labels)
IsVInstrFine P regs labels (Fail f label) = IsFailure (instr_at P f label)
IsVInstrFine P regs labels (Assume guards back target next) =
    (length guards ≤ MAX_GUARDS) × All (IsGuardWithin regs) guards × (back ≤ MAX_BACK) × IsPointFine P regs target × (next.0 < labels)
IsVInstrFine P regs labels (Anchor back target next) = (back ≤ MAX_BACK) × IsPointFine P regs target × (next.0 < labels)

-- ---- facts

-- facts of registers below the count, strictly increasing
pub record AreFactsFine (regs : ℕ) (facts : List Fact) : Type 0 where
  pub registers : All (λ fact. fact.reg.0 < regs) facts
  pub increasing : IsStrictlyIncreasing (map (λ fact. fact.reg.0) facts)

abbrev pub HasFineFacts : ℕ → Facts → Type 0
HasFineFacts regs Unreached = ⊤
HasFineFacts regs (Known facts) = AreFactsFine regs facts

-- ---- places and codes

pub record IsBackFine (P : Program) (regs : ℕ) (pair : Back) : Type 0 where
  pub few_turns : pair.turns ≤ MAX_BACK
  pub point : IsPointFine P regs pair.point

pub record IsPlaceFine (P : Program) (regs labels : ℕ) (place : Place) : Type 0 where
  pub instr : IsVInstrFine P regs labels place.instr
  pub point : IsPointFine P regs place.point
  pub facts : HasFineFacts regs place.facts
  pub backs : All (IsBackFine P regs) place.backs

pub record WellNamed (P : Program) (code : Code) : Type 0 where
  -- the function exists, and its parameters have registers
  pub params : IsSomeAnd (slice_get P.functions code.function.0) (λ f. f.params ≤ code.regs)
  pub few_regs : code.regs ≤ MAX_CODE_REGS
  pub some_place : 0 < length code.places
  pub few_places : length code.places ≤ MAX_CODE_LABELS
  pub entry : code.entry.0 < length code.places
  pub places : All (IsPlaceFine P code.regs (length code.places)) code.places

-- a context of a function: facts of its parameters
abbrev pub IsContextOf : Program → FunId → List Fact → Type 0
IsContextOf P f context = IsSomeAnd (slice_get P.functions f.0) (λ function. AreFactsFine function.params context)
