-- The words of a code, in format 1. Instructions and expressions begin with the number of
-- their kind. Every item is one word unless it says otherwise, and counts come before their items.
use Rattle.std.specs.Prelude.{ℕ, suc, List, [], ◌∷◌, ◌++◌, length}
use Rattle.std.specs.List.{flat_map}
use Rattle.cj_ir.specs.Values.{value_word}
use Rattle.cj_ir.specs.declared.language.Operand.{Operand}
use Rattle.cj_ir.specs.declared.language.Operand.TheVariants as operand
use Rattle.cj_ir.specs.declared.language.Expr.{Expr}
use Rattle.cj_ir.specs.declared.language.Expr.TheVariants.{Copy, Neg, Eqz, Add, Sub, Mul, Div, Rem, Eq, Lt}
use Rattle.cj_ir.specs.declared.language.Guard.{Guard}
use Rattle.cj_ir.specs.declared.language.Guard.TheVariants.{Is, Never}
use Rattle.cj_draft.specs.declared.points.PointFrame.{PointFrame}
use Rattle.cj_draft.specs.declared.points.Point.{Point}
use Rattle.cj_draft.specs.declared.facts.Fact.{Fact}
use Rattle.cj_draft.specs.declared.facts.Facts.{Facts}
use Rattle.cj_draft.specs.declared.facts.Facts.TheVariants.{Unreached, Known}
use Rattle.cj_draft.specs.declared.instructions.Pair.{Pair}
use Rattle.cj_draft.specs.declared.instructions.VInstr.{VInstr}
use Rattle.cj_draft.specs.declared.instructions.VInstr.TheVariants.{Nop, Op, Move, Cond, Call, Return, Print, Load, Store, Fail, Assume, Anchor}
use Rattle.cj_draft.specs.declared.code.Back.{Back}
use Rattle.cj_draft.specs.declared.code.Place.{Place}
use Rattle.cj_draft.specs.declared.code.Code.{Code}
use Rattle.cj_spelling.specs.Kinds.{instr_number, expr_number}
use Rattle.cj_spelling.specs.declared.kinds.InstrKind.TheVariants as instr_kind
use Rattle.cj_spelling.specs.declared.kinds.ExprKind.TheVariants as expr_kind

-- the count of the items, then each item
abbrev pub counted : {A : Type 0} → (A → List ℕ) → List A → List ℕ
counted words items = length items ∷ flat_map words items

abbrev pub operand_words : Operand → List ℕ
operand_words (operand.Reg r) = 0 ∷ r.0 ∷ []
operand_words (operand.Const c) = 1 ∷ value_word c ∷ []

abbrev pub two_operands : Operand → Operand → List ℕ
two_operands a b = operand_words a ++ operand_words b

abbrev pub expr_words : Expr → List ℕ
expr_words (Copy a) = expr_number expr_kind.Copy ∷ operand_words a
expr_words (Neg a) = expr_number expr_kind.Neg ∷ operand_words a
expr_words (Eqz a) = expr_number expr_kind.Eqz ∷ operand_words a
expr_words (Add a b) = expr_number expr_kind.Add ∷ two_operands a b
expr_words (Sub a b) = expr_number expr_kind.Sub ∷ two_operands a b
expr_words (Mul a b) = expr_number expr_kind.Mul ∷ two_operands a b
expr_words (Div a b) = expr_number expr_kind.Div ∷ two_operands a b
expr_words (Rem a b) = expr_number expr_kind.Rem ∷ two_operands a b
expr_words (Eq a b) = expr_number expr_kind.Eq ∷ two_operands a b
expr_words (Lt a b) = expr_number expr_kind.Lt ∷ two_operands a b

abbrev pub guard_words : Guard → List ℕ
guard_words Never = 0 ∷ []
guard_words (Is reg value) = 1 ∷ reg.0 ∷ value_word value ∷ []

abbrev pub frame_words : PointFrame → List ℕ
frame_words f = f.function.0 ∷ f.label.0 ∷ f.dest.0 ∷ counted operand_words f.map

abbrev pub point_words : Point → List ℕ
point_words point = counted frame_words point.frames

abbrev pub pair_words : Pair → List ℕ
pair_words pair = pair.dest.0 ∷ operand_words pair.value

-- An anchor has no spelling.
abbrev pub instr_words : VInstr → List ℕ
instr_words (Nop next) = instr_number instr_kind.Nop ∷ next.0 ∷ []
instr_words (Op dest expr next) = instr_number instr_kind.Op ∷ dest.0 ∷ (expr_words expr ++ next.0 ∷ [])
instr_words (Move pairs next) = instr_number instr_kind.Move ∷ (counted pair_words pairs ++ next.0 ∷ [])
instr_words (Cond test then_to else_to) = instr_number instr_kind.Cond ∷ (operand_words test ++ then_to.0 ∷ else_to.0 ∷ [])
instr_words (Call dest f args next) = instr_number instr_kind.Call ∷ dest.0 ∷ f.0 ∷ (counted operand_words args ++ next.0 ∷ [])
instr_words (Return value) = instr_number instr_kind.Return ∷ operand_words value
instr_words (Print value next) = instr_number instr_kind.Print ∷ (operand_words value ++ next.0 ∷ [])
instr_words (Load dest address next) = instr_number instr_kind.Load ∷ dest.0 ∷ (operand_words address ++ next.0 ∷ [])
instr_words (Store address value next) = instr_number instr_kind.Store ∷ (operand_words address ++ (operand_words value ++ next.0 ∷ []))
instr_words (Fail f label) = instr_number instr_kind.Fail ∷ f.0 ∷ label.0 ∷ []
instr_words (Assume guards back target next) =
    instr_number instr_kind.Assume ∷ (counted guard_words guards ++ (back ∷ (point_words target ++ next.0 ∷ [])))
instr_words (Anchor back target next) = []

abbrev pub fact_words : Fact → List ℕ
fact_words fact = fact.reg.0 ∷ value_word fact.value ∷ []

abbrev pub facts_words : Facts → List ℕ
facts_words Unreached = 0 ∷ []
facts_words (Known facts) = 1 ∷ counted fact_words facts

abbrev pub back_words : Back → List ℕ
back_words pair = pair.turns ∷ point_words pair.point

abbrev pub place_words : Place → List ℕ
place_words place =
    instr_words place.instr ++ (point_words place.point ++ (facts_words place.facts ++ counted back_words place.backs))

-- the words after the length: the format's number first
abbrev pub body_words : Code → List ℕ
body_words code = 1 ∷ code.function.0 ∷ code.regs ∷ code.entry.0 ∷ counted place_words code.places

-- the length of all, itself counted, and the rest
abbrev pub spelling : Code → List ℕ
spelling code = suc (length (body_words code)) ∷ body_words code
