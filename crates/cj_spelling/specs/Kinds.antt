-- The kinds of instructions and expressions in words, by number: format 1.
use Rattle.std.specs.Prelude.{ℕ}
use Rattle.cj_spelling.specs.declared.kinds.InstrKind.{InstrKind}
use Rattle.cj_spelling.specs.declared.kinds.InstrKind.TheVariants.{Nop, Op, Move, Cond, Call, Return, Print, Load, Store, Fail, Assume}
use Rattle.cj_spelling.specs.declared.kinds.ExprKind.{ExprKind}
use Rattle.cj_spelling.specs.declared.kinds.ExprKind.TheVariants.{Copy, Neg, Eqz, Add, Sub, Mul, Div, Rem, Eq, Lt}

abbrev pub instr_number : InstrKind → ℕ
instr_number Nop = 1
instr_number Op = 2
instr_number Move = 3
instr_number Cond = 4
instr_number Call = 5
instr_number Return = 6
instr_number Print = 7
instr_number Load = 8
instr_number Store = 9
instr_number Fail = 10
instr_number Assume = 11

abbrev pub expr_number : ExprKind → ℕ
expr_number Copy = 0
expr_number Neg = 1
expr_number Eqz = 2
expr_number Add = 3
expr_number Sub = 4
expr_number Mul = 5
expr_number Div = 6
expr_number Rem = 7
expr_number Eq = 8
expr_number Lt = 9
