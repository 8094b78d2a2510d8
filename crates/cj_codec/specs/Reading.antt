-- The reading of codes. That it finds exactly the codes whose spelling the words are is proved.
use Rattle.std.specs.Prelude.{ℕ, ◌+◌, ℤ, ◌^◌, List, [], ◌∷◌, length, Bool, true, false, cond, ◌&&◌, not, Option, None, Some, nat_lt, nat_le, ◌==◌}
use Rattle.std.specs.List.{list_any}
use Rattle.std.specs.Int.{cast_signed, w64}
use Rattle.cj_ir.specs.declared.limits.TheConstants.{MAX_FUNCTIONS, MAX_PARAMS, MAX_REGS, MAX_LABELS}
use Rattle.cj_draft.specs.declared.limits.TheConstants.{MAX_CODE_REGS, MAX_CODE_LABELS, MAX_FRAMES, MAX_GUARDS, MAX_BACK}
use Rattle.cj_spelling.specs.declared.codes.TheConstants.{MAX_WORDS}
use Rattle.cj_ir.specs.declared.language.FunId.{FunId}
use Rattle.cj_ir.specs.declared.language.Label.{Label}
use Rattle.cj_ir.specs.declared.language.Reg.{Reg}
use Rattle.cj_ir.specs.declared.language.Operand.{Operand}
use Rattle.cj_ir.specs.declared.language.Operand.TheVariants as operand
use Rattle.cj_ir.specs.declared.language.Expr.{Expr}
use Rattle.cj_ir.specs.declared.language.Expr.TheVariants.{Copy, Neg, Eqz, Add, Sub, Mul, Div, Rem, Eq, Lt}
use Rattle.cj_ir.specs.declared.language.Guard.{Guard}
use Rattle.cj_ir.specs.declared.language.Guard.TheVariants.{Is, Never}
use Rattle.cj_draft.specs.declared.points.PointFrame.{PointFrame}
use Rattle.cj_draft.specs.declared.points.Point.{Point}
use Rattle.cj_draft.specs.declared.facts.Fact.{Fact}
use Rattle.cj_draft.specs.declared.facts.Facts.{Facts}
use Rattle.cj_draft.specs.declared.facts.Facts.TheVariants.{Unreached, Known}
use Rattle.cj_draft.specs.declared.instructions.Pair.{Pair}
use Rattle.cj_draft.specs.declared.instructions.VInstr.{VInstr}
use Rattle.cj_draft.specs.declared.instructions.VInstr.TheVariants.{Nop, Op, Move, Cond, Call, Return, Print, Load, Store, Fail, Assume}
use Rattle.cj_draft.specs.declared.code.Back.{Back}
use Rattle.cj_draft.specs.declared.code.Place.{Place}
use Rattle.cj_draft.specs.declared.code.Code.{Code}
use Rattle.cj_spelling.specs.declared.kinds.InstrKind.TheVariants as instr_kind
use Rattle.cj_spelling.specs.declared.kinds.ExprKind.TheVariants as expr_kind
use Rattle.cj_spelling.specs.Kinds.{instr_number, expr_number}
use Rattle.cj_spelling.specs.Formats.{Reading, ◌>>=◌, made, only, two_at, three_at, four_at, each_at, counted_at, word_at, below_at, at_most_at}
use Rattle.cj_codec.specs.declared.reader.Limits.{Limits}

-- ---- numbers

abbrev pub function_of : ℕ → FunId
function_of n = record { 0 = n }

abbrev pub label_of : ℕ → Label
label_of n = record { 0 = n }

abbrev pub reg_of : ℕ → Reg
reg_of n = record { 0 = n }

unfoldable pub function_at : Reading FunId
function_at ws = made function_of (below_at MAX_FUNCTIONS ws)

-- a label of the code, and a label of a function
unfoldable pub label_at : Limits → Reading Label
label_at limits ws = made label_of (below_at limits.labels ws)

unfoldable pub base_label_at : Reading Label
base_label_at ws = made label_of (below_at MAX_LABELS ws)

-- a register of the code, and a register of a function
unfoldable pub reg_at : Limits → Reading Reg
reg_at limits ws = made reg_of (below_at limits.regs ws)

unfoldable pub base_reg_at : Reading Reg
base_reg_at ws = made reg_of (below_at MAX_REGS ws)

unfoldable pub value_at : Reading ℤ
value_at ws = made (cast_signed w64) (below_at (2 ^ 64) ws)

-- ---- operands, expressions and guards, by their kinds

abbrev pub operand_by : Limits → ℕ → Reading Operand
operand_by limits kind ws =
    cond (kind == 0) (made operand.Reg (reg_at limits ws))
    (cond (kind == 1) (made operand.Const (value_at ws)) None)

unfoldable pub operand_at : Limits → Reading Operand
operand_at limits ws = word_at ws >>= λ kind. operand_by limits kind.0 kind.1

abbrev pub one_operand : (Operand → Expr) → Limits → Reading Expr
one_operand f limits ws = made f (operand_at limits ws)

unfoldable pub operands_at : Limits → Reading (Operand × Operand)
operands_at limits ws = two_at (λ a b. (a, b)) (operand_at limits) (operand_at limits) ws

abbrev pub two_operands_at : (Operand → Operand → Expr) → Limits → Reading Expr
two_operands_at f limits ws = made (λ both. f both.0 both.1) (operands_at limits ws)

abbrev pub expr_by : Limits → ℕ → Reading Expr
expr_by limits number ws =
    cond (number == expr_number expr_kind.Copy) (one_operand Copy limits ws)
    (cond (number == expr_number expr_kind.Neg) (one_operand Neg limits ws)
    (cond (number == expr_number expr_kind.Eqz) (one_operand Eqz limits ws)
    (cond (number == expr_number expr_kind.Add) (two_operands_at Add limits ws)
    (cond (number == expr_number expr_kind.Sub) (two_operands_at Sub limits ws)
    (cond (number == expr_number expr_kind.Mul) (two_operands_at Mul limits ws)
    (cond (number == expr_number expr_kind.Div) (two_operands_at Div limits ws)
    (cond (number == expr_number expr_kind.Rem) (two_operands_at Rem limits ws)
    (cond (number == expr_number expr_kind.Eq) (two_operands_at Eq limits ws)
    (cond (number == expr_number expr_kind.Lt) (two_operands_at Lt limits ws) None)))))))))

unfoldable pub expr_at : Limits → Reading Expr
expr_at limits ws = word_at ws >>= λ number. expr_by limits number.0 number.1

abbrev pub guard_by : Limits → ℕ → Reading Guard
guard_by limits kind ws =
    cond (kind == 0) (Some (Never, ws))
    (cond (kind == 1) (two_at Is (reg_at limits) value_at ws) None)

unfoldable pub guard_at : Limits → Reading Guard
guard_at limits ws = word_at ws >>= λ kind. guard_by limits kind.0 kind.1

-- ---- points

abbrev pub frame_of : FunId → Label → Reg → List Operand → PointFrame
frame_of f label dest map = record { function = f; label = label; dest = dest; map = map }

unfoldable pub frame_at : Limits → Reading PointFrame
frame_at limits ws =
    four_at frame_of function_at base_label_at base_reg_at (counted_at (at_most_at MAX_REGS) (operand_at limits)) ws

abbrev pub has_plain_top : List PointFrame → Bool
has_plain_top [] = false
has_plain_top (first ∷ others) = first.dest.0 == 0

abbrev pub point_of : List PointFrame → Point
point_of frames = record { frames = frames }

unfoldable pub point_at : Limits → Reading Point
point_at limits ws = made point_of (only has_plain_top (counted_at (at_most_at MAX_FRAMES) (frame_at limits) ws))

-- ---- instructions, by their kinds

abbrev pub pair_of : Reg → Operand → Pair
pair_of dest value = record { dest = dest; value = value }

unfoldable pub pair_at : Limits → Reading Pair
pair_at limits ws = two_at pair_of (reg_at limits) (operand_at limits) ws

-- whether one of them has that destination
abbrev pub has_dest : ℕ → List Pair → Bool
has_dest dest pairs = list_any (λ pair. pair.dest.0 == dest) pairs

-- whether the destinations differ
abbrev pub are_apart : List Pair → Bool
are_apart [] = true
are_apart (pair ∷ pairs) = not (has_dest pair.dest.0 pairs) && are_apart pairs

unfoldable pub pairs_at : Limits → Reading (List Pair)
pairs_at limits ws = only are_apart (counted_at (at_most_at MAX_CODE_REGS) (pair_at limits) ws)

unfoldable pub op_at : Limits → Reading VInstr
op_at limits ws = three_at Op (reg_at limits) (expr_at limits) (label_at limits) ws

unfoldable pub move_at : Limits → Reading VInstr
move_at limits ws = two_at Move (pairs_at limits) (label_at limits) ws

unfoldable pub cond_at : Limits → Reading VInstr
cond_at limits ws = three_at Cond (operand_at limits) (label_at limits) (label_at limits) ws

unfoldable pub call_at : Limits → Reading VInstr
call_at limits ws =
    four_at Call (reg_at limits) function_at (counted_at (at_most_at MAX_PARAMS) (operand_at limits)) (label_at limits) ws

unfoldable pub print_at : Limits → Reading VInstr
print_at limits ws = two_at Print (operand_at limits) (label_at limits) ws

unfoldable pub load_at : Limits → Reading VInstr
load_at limits ws = three_at Load (reg_at limits) (operand_at limits) (label_at limits) ws

unfoldable pub store_at : Limits → Reading VInstr
store_at limits ws = three_at Store (operand_at limits) (operand_at limits) (label_at limits) ws

unfoldable pub fail_at : Reading VInstr
fail_at ws = two_at Fail function_at base_label_at ws

unfoldable pub assume_at : Limits → Reading VInstr
assume_at limits ws =
    four_at Assume (counted_at (at_most_at MAX_GUARDS) (guard_at limits)) (at_most_at MAX_BACK) (point_at limits) (label_at limits) ws

abbrev pub instr_by : Limits → ℕ → Reading VInstr
instr_by limits number ws =
    cond (number == instr_number instr_kind.Nop) (made Nop (label_at limits ws))
    (cond (number == instr_number instr_kind.Op) (op_at limits ws)
    (cond (number == instr_number instr_kind.Move) (move_at limits ws)
    (cond (number == instr_number instr_kind.Cond) (cond_at limits ws)
    (cond (number == instr_number instr_kind.Call) (call_at limits ws)
    (cond (number == instr_number instr_kind.Return) (made Return (operand_at limits ws))
    (cond (number == instr_number instr_kind.Print) (print_at limits ws)
    (cond (number == instr_number instr_kind.Load) (load_at limits ws)
    (cond (number == instr_number instr_kind.Store) (store_at limits ws)
    (cond (number == instr_number instr_kind.Fail) (fail_at ws)
    (cond (number == instr_number instr_kind.Assume) (assume_at limits ws) None))))))))))

unfoldable pub instr_at : Limits → Reading VInstr
instr_at limits ws = word_at ws >>= λ number. instr_by limits number.0 number.1

-- ---- facts and backs

abbrev pub fact_of : Reg → ℤ → Fact
fact_of reg value = record { reg = reg; value = value }

unfoldable pub fact_at : Limits → Reading Fact
fact_at limits ws = two_at fact_of (reg_at limits) value_at ws

-- whether the registers are strictly increasing, and none is below the first number
abbrev pub rise_from : ℕ → List Fact → Bool
rise_from least [] = true
rise_from least (fact ∷ facts) = nat_le least fact.reg.0 && rise_from (fact.reg.0 + 1) facts

unfoldable pub known_at : Limits → Reading (List Fact)
known_at limits ws = only (rise_from 0) (counted_at word_at (fact_at limits) ws)

abbrev pub facts_by : Limits → ℕ → Reading Facts
facts_by limits kind ws =
    cond (kind == 0) (Some (Unreached, ws))
    (cond (kind == 1) (made Known (known_at limits ws)) None)

unfoldable pub facts_at : Limits → Reading Facts
facts_at limits ws = word_at ws >>= λ kind. facts_by limits kind.0 kind.1

abbrev pub back_of : ℕ → Point → Back
back_of turns point = record { turns = turns; point = point }

unfoldable pub back_at : Limits → Reading Back
back_at limits ws = two_at back_of (at_most_at MAX_BACK) (point_at limits) ws

-- ---- places and codes

abbrev pub place_of : VInstr → Point → Facts → List Back → Place
place_of instr point facts backs = record { instr = instr; point = point; facts = facts; backs = backs }

unfoldable pub place_at : Limits → Reading Place
place_at limits ws =
    four_at place_of (instr_at limits) (point_at limits) (facts_at limits) (counted_at word_at (back_at limits)) ws

abbrev pub limits_of : ℕ → ℕ → Limits
limits_of regs labels = record { regs = regs; labels = labels }

abbrev pub code_of : FunId → ℕ → ℕ → List Place → Code
code_of f regs entry places = record { function = f; regs = regs; entry = label_of entry; places = places }

-- so many places, of which one is the entry
unfoldable pub places_at : FunId → ℕ → ℕ → ℕ → Reading Code
places_at f regs entry labels ws =
    cond (nat_lt entry labels)
    (made (code_of f regs entry) (each_at (place_at (limits_of regs labels)) labels [] ws))
    None

unfoldable pub code_at : Reading Code
code_at ws =
    function_at ws >>= λ f. at_most_at MAX_CODE_REGS f.1 >>= λ regs. word_at regs.1 >>= λ entry.
    at_most_at MAX_CODE_LABELS entry.1 >>= λ labels. places_at f.0 regs.0 entry.0 labels.0 labels.1

-- the format's number, and the code
unfoldable pub body_at : Reading Code
body_at ws = word_at ws >>= λ format. cond (format.0 == 1) (code_at format.1) None

abbrev pub whole : Code × List ℕ → Option Code
whole (code, []) = Some code
whole (code, w ∷ ws) = None

-- the code that all the words spell
unfoldable pub decoded : List ℕ → Option Code
decoded ws =
    cond (nat_le (length ws) MAX_WORDS)
    (word_at ws >>= λ len. cond (len.0 == length ws) (body_at len.1 >>= whole) None)
    None
