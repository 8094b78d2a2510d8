-- Each constant of a code is a value, from -2^63 to 2^63 - 1. Of a code that the program holds that is so by its types.
use Rattle.std.specs.Prelude.{ℤ, All, ⊤}
use Rattle.std.specs.Int.{w64}
use Rattle.std.specs.Int.RustNames.{FitsSigned}
use Rattle.cj_ir.specs.declared.language.Operand.{Operand}
use Rattle.cj_ir.specs.declared.language.Operand.TheVariants as operand
use Rattle.cj_ir.specs.declared.language.Expr.{Expr}
use Rattle.cj_ir.specs.declared.language.Expr.TheVariants.{Copy, Neg, Eqz, Add, Sub, Mul, Div, Rem, Eq, Lt}
use Rattle.cj_ir.specs.declared.language.Guard.{Guard}
use Rattle.cj_ir.specs.declared.language.Guard.TheVariants.{Is, Never}
use Rattle.cj_draft.specs.declared.points.PointFrame.{PointFrame}
use Rattle.cj_draft.specs.declared.points.Point.{Point}
use Rattle.cj_draft.specs.declared.facts.Fact.{Fact}
use Rattle.cj_draft.specs.declared.facts.Facts.{Facts}
use Rattle.cj_draft.specs.declared.facts.Facts.TheVariants.{Unreached, Known}
use Rattle.cj_draft.specs.declared.instructions.Pair.{Pair}
use Rattle.cj_draft.specs.declared.instructions.VInstr.{VInstr}
use Rattle.cj_draft.specs.declared.instructions.VInstr.TheVariants.{Nop, Op, Move, Cond, Call, Return, Print, Load, Store, Fail, Assume, Anchor}
use Rattle.cj_draft.specs.declared.code.Back.{Back}
use Rattle.cj_draft.specs.declared.code.Place.{Place}
use Rattle.cj_draft.specs.declared.code.Code.{Code}

abbrev pub IsValue : ℤ → Type 0
IsValue = FitsSigned w64

abbrev pub HasOperandValue : Operand → Type 0
HasOperandValue (operand.Reg r) = ⊤
HasOperandValue (operand.Const c) = IsValue c

abbrev pub HasTwoValues : Operand → Operand → Type 0
HasTwoValues a b = HasOperandValue a × HasOperandValue b

abbrev pub HasExprValues : Expr → Type 0
HasExprValues (Copy a) = HasOperandValue a
HasExprValues (Neg a) = HasOperandValue a
HasExprValues (Eqz a) = HasOperandValue a
HasExprValues (Add a b) = HasTwoValues a b
HasExprValues (Sub a b) = HasTwoValues a b
HasExprValues (Mul a b) = HasTwoValues a b
HasExprValues (Div a b) = HasTwoValues a b
HasExprValues (Rem a b) = HasTwoValues a b
HasExprValues (Eq a b) = HasTwoValues a b
HasExprValues (Lt a b) = HasTwoValues a b

abbrev pub HasGuardValue : Guard → Type 0
HasGuardValue Never = ⊤
HasGuardValue (Is reg value) = IsValue value

abbrev pub HasFrameValues : PointFrame → Type 0
HasFrameValues f = All HasOperandValue f.map

abbrev pub HasPointValues : Point → Type 0
HasPointValues point = All HasFrameValues point.frames

abbrev pub HasPairValue : Pair → Type 0
HasPairValue pair = HasOperandValue pair.value

-- of an anchor, which has no spelling, nothing is asked
abbrev pub HasInstrValues : VInstr → Type 0
HasInstrValues (Nop next) = ⊤
HasInstrValues (Op dest expr next) = HasExprValues expr
HasInstrValues (Move pairs next) = All HasPairValue pairs
HasInstrValues (Cond test then_to else_to) = HasOperandValue test
HasInstrValues (Call dest f args next) = All HasOperandValue args
HasInstrValues (Return value) = HasOperandValue value
HasInstrValues (Print value next) = HasOperandValue value
HasInstrValues (Load dest address next) = HasOperandValue address
HasInstrValues (Store address value next) = HasTwoValues address value
HasInstrValues (Fail f label) = ⊤
HasInstrValues (Assume guards back target next) = All HasGuardValue guards × HasPointValues target
HasInstrValues (Anchor back target next) = ⊤

abbrev pub HasFactValue : Fact → Type 0
HasFactValue fact = IsValue fact.value

abbrev pub HasFactsValues : Facts → Type 0
HasFactsValues Unreached = ⊤
HasFactsValues (Known facts) = All HasFactValue facts

abbrev pub HasBackValues : Back → Type 0
HasBackValues pair = HasPointValues pair.point

pub record HasPlaceValues (place : Place) : Type 0 where
  pub instr : HasInstrValues place.instr
  pub point : HasPointValues place.point
  pub facts : HasFactsValues place.facts
  pub backs : All HasBackValues place.backs

abbrev pub HasValues : Code → Type 0
HasValues code = All HasPlaceValues code.places
