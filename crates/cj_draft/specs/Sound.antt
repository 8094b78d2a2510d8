-- Sound codes.
use Rattle.std.specs.Prelude.{◌≡◌, ℕ, zero, suc, ◌⊎◌, Bool, true, List, [], length, All, Option, Some, None, ℤ, slice_set, ⊤}
use Rattle.std.specs.List.{Contains}
use Rattle.cj_ir.specs.WellFormed.{Takes}
use Rattle.cj_draft.specs.declared.limits.TheConstants.{MAX_ROW}
use Rattle.cj_ir.specs.declared.language.FunId.{FunId}
use Rattle.cj_ir.specs.declared.language.Label.{Label}
use Rattle.cj_ir.specs.declared.language.Reg.{Reg}
use Rattle.cj_ir.specs.declared.language.Program.{Program}
use Rattle.cj_base.specs.declared.machine.End.TheVariants.{Returned}
use Rattle.cj_base.specs.Machine.{Stack, On, Calls, Returns, Faults, Goes, Ends, end_of, entry_regs, entry_frame, base_turn}
use Rattle.cj_base.specs.Run.{IsSilent}
use Rattle.cj_draft.specs.declared.points.Point.{Point}
use Rattle.cj_draft.specs.declared.facts.Fact.{Fact}
use Rattle.cj_draft.specs.declared.facts.Facts.{Facts}
use Rattle.cj_draft.specs.declared.facts.Facts.TheVariants.{Unreached, Known}
use Rattle.cj_draft.specs.declared.instructions.VInstr.{VInstr}
use Rattle.cj_draft.specs.declared.instructions.VInstr.TheVariants.{Nop, Cond, Assume, Anchor}
use Rattle.cj_draft.specs.declared.code.Back.{Back}
use Rattle.cj_draft.specs.declared.code.Place.{Place}
use Rattle.cj_draft.specs.declared.code.Code.{Code}
use Rattle.cj_draft.specs.Points.{frames_of}
use Rattle.cj_draft.specs.Effects.{VersionEffect, Plain, Guarded, version_effect}
use Rattle.cj_draft.specs.WellNamed.{WellNamed}
use Rattle.cj_draft.specs.Arrives.{place_at, Satisfies, Admits, Arrives, instr_of, IsAtCall, after_call}

-- ---- where a pair of a label's backs may come from

-- the pair of a number and a point
abbrev pub pair_of : ℕ → Point → Back
pair_of turns point = record { turns = turns; point = point }

-- it has number 0 and the place's own frames
abbrev pub IsOwn : Program → Place → List ℤ → Back → Type 0
IsOwn P place regs pair = (pair.turns ≡ 0) × (frames_of P pair.point regs ≡ frames_of P place.point regs)

abbrev pub AllOwn : Program → Place → List ℤ → Type 0
AllOwn P place regs = (pair : Back) → Contains place.backs pair → IsOwn P place regs pair

-- a nop or a cond
unfoldable pub IsSilentIn : VInstr → Type 0
IsSilentIn (Nop next) = ⊤
IsSilentIn (Cond test then_to else_to) = ⊤
IsSilentIn instr = ⊥

-- it is carried over one silent turn, of the version and of the base frames: the place has it with one turn less
pub record IsCarried (P : Program) (from : Place) (regs : List ℤ) (pair : Back) : Type 0 where
  pub instr : IsSilentIn from.instr
  pub base : IsSilent (instr_of P (frames_of P from.point regs))
  pub before : ℕ
  pub turns : pair.turns ≡ suc before
  pub carried : Contains from.backs (pair_of before pair.point)

-- ---- what an instruction owes, from a place that admits the registers

-- Going on, the base frames make one turn with the same print and memory, and the run arrives at the next label. Each of
-- its pairs is its own or carried.
pub record StepsOn
    (P : Program) (code : Code) (from : Place) (regs m : List ℤ)
    (next : Label) (regs' m' printed : List ℤ) : Type 0 where
  pub stack : Stack
  pub turn : base_turn P (frames_of P from.point regs) m ≡ Goes printed (record { stack = stack; memory = m' })
  pub arrives : Arrives P code next regs' stack
  pub backs : (pair : Back) →
      Contains arrives.place.backs pair → IsOwn P arrives.place regs' pair ⊎ IsCarried P from regs pair

-- The run arrives at a label where each pair is the label's own.
pub record Resumes (P : Program) (code : Code) (label : Label) (regs : List ℤ) (stack : Stack) : Type 0 where
  pub arrives : Arrives P code label regs stack
  pub backs : AllOwn P arrives.place regs

-- Calling, the base frames are at a call of that function with those arguments, and for every returned value the run
-- resumes at the next label.
pub record StepsIn
    (P : Program) (code : Code) (from : Place) (regs : List ℤ)
    (dest : Reg) (f : FunId) (args : List ℤ) (next : Label) : Type 0 where
  pub call : IsAtCall P (frames_of P from.point regs) f args
  pub resumes : (value : ℤ) →
      Resumes P code next (slice_set regs dest.0 value) (after_call P (frames_of P from.point regs) value)

-- Where the guards hold the run arrives at the next label, whose frames are this label's. Each of its pairs is its own or
-- one of this label.
pub record Passes (P : Program) (code : Code) (from : Place) (regs : List ℤ) (next : Label) : Type 0 where
  pub arrives : Arrives P code next regs (frames_of P from.point regs)
  pub equal : frames_of P from.point regs ≡ frames_of P arrives.place.point regs
  pub backs : (pair : Back) →
      Contains arrives.place.backs pair → IsOwn P arrives.place regs pair ⊎ Contains from.backs pair

-- Guarding, the target with its number is among the label's pairs, whether the guards hold or not.
pub record StepsGuarded
    (P : Program) (code : Code) (from : Place) (regs : List ℤ)
    (holds : Bool) (back : ℕ) (target : Point) (next : Label) : Type 0 where
  pub target_in : Contains from.backs (pair_of back target)
  pub passes : holds ≡ true → Passes P code from regs next

abbrev pub SoundEffect : Program → Code → Place → List ℤ → List ℤ → VersionEffect → Type 0
SoundEffect P code from regs m (Plain (On next regs' m' printed)) =
    StepsOn P code from regs m next regs' m' printed
SoundEffect P code from regs m (Plain (Calls dest f args next)) =
    StepsIn P code from regs dest f args next
SoundEffect P code from regs m (Plain (Returns value)) =
    base_turn P (frames_of P from.point regs) m ≡ Ends (Returned value)
SoundEffect P code from regs m (Plain (Faults fault)) =
    base_turn P (frames_of P from.point regs) m ≡ Ends (end_of fault)
SoundEffect P code from regs m (Guarded holds back target next) =
    StepsGuarded P code from regs holds back target next

-- ---- rows

-- the next label of an Assume or Anchor
unfoldable pub guard_next : VInstr → Option Label
guard_next (Assume guards back target next) = Some next
guard_next (Anchor back target next) = Some next
guard_next instr = None

-- from the label on, at most n Assumes and Anchors follow each other
abbrev pub RowWithin : Code → ℕ → Label → Type 0
RowWithin code zero label = (place : Place) → place_at code label ≡ Some place → guard_next place.instr ≡ None
RowWithin code (suc n) label =
    (place : Place) (next : Label) →
    place_at code label ≡ Some place → guard_next place.instr ≡ Some next → RowWithin code n next

-- ---- the entry, and the whole

-- the facts are Known, and each is one of the context
abbrev pub AreAmong : List Fact → Facts → Type 0
AreAmong context Unreached = ⊥
AreAmong context (Known facts) = All (Contains context) facts

pub record Sound (P : Program) (context : List Fact) (f : FunId) (code : Code) : Type 0 where
  pub function : code.function ≡ f
  pub named : WellNamed P code
  -- the entry's facts are of the context
  pub entry_facts : (place : Place) → place_at code code.entry ≡ Some place → AreAmong context place.facts
  -- entered with arguments that satisfy the context, a run is at the entry, with the function's entry frame
  pub entry : (args : List ℤ) → Takes P.functions f (length args) → Satisfies context args →
      Resumes P code code.entry (entry_regs code.regs args) (record { top = entry_frame P f args; waiting = [] })
  -- at every label, with every list of registers that it admits, over every memory
  pub places : (label : Label) (place : Place) → place_at code label ≡ Some place →
      (regs m : List ℤ) → Admits code place regs →
      SoundEffect P code place regs m (version_effect place.instr regs m)
  pub rows : (label : Label) → RowWithin code MAX_ROW label
