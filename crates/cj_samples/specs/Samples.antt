-- What the samples are.
use Rattle.std.specs.Prelude.{ℕ, List, [], ◌∷◌, ◌+◌, ◌-◌, ◌%◌, ◌^◌, codes, pos}
use Rattle.cj_ir.specs.declared.language.Function.{Function}
use Rattle.cj_ir.specs.declared.language.Instr.{Instr}
use Rattle.cj_ir.specs.declared.language.Instr.TheVariants.{Nop, Op, Cond, Call, Return, Print}
use Rattle.cj_ir.specs.declared.language.Label.{Label}
use Rattle.cj_ir.specs.declared.language.Line.{Line}
use Rattle.cj_ir.specs.declared.language.Operand.{Operand}
use Rattle.cj_ir.specs.declared.language.Operand.TheVariants.{Reg, Const}
use Rattle.cj_ir.specs.declared.language.Expr.TheVariants.{Add, Sub, Mul}

-- a line
abbrev pub line : ℕ → Instr → Line
line number instr = record { name = number; instr = instr }

-- the lines of those instructions, whose labels have the numbers from one on, modulo 2^32
abbrev pub lines_from : ℕ → List Instr → List Line
lines_from number [] = []
lines_from number (instr ∷ instrs) = line number instr ∷ lines_from ((number + 1) % 2 ^ 32) instrs

-- from 1 on
abbrev pub lines_of : List Instr → List Line
lines_of instrs = lines_from 1 instrs

-- a function of one parameter, `n`, and one more register, `r`
unfoldable pub function_of : List ℕ → List Line → Function
function_of name code = record {
  name = name;
  params = 1;
  regs = codes "n" ∷ codes "r" ∷ [];
  code = code;
}

-- one without registers
unfoldable pub function_without_registers : List ℕ → List Line → Function
function_without_registers name code = record {
  name = name;
  params = 0;
  regs = [];
  code = code;
}

abbrev pub n : Operand
n = Reg (record { 0 = 0 })

abbrev pub r : Operand
r = Reg (record { 0 = 1 })

abbrev pub const : ℕ → Operand
const number = Const (pos number)

-- the label of that number
abbrev pub to : ℕ → Label
to number = record { 0 = number - 1 }

-- fun main(n; r) { 1: op r = n + 1 -> 2   2: print r -> 3   3: return r }
unfoldable pub increment : Function
increment = function_of (codes "main") (lines_of (
    Op (record { 0 = 1 }) (Add n (const 1)) (to 2)
    ∷ Print r (to 3)
    ∷ Return r
    ∷ []))

-- fun NAME() { 1: return 0 }
unfoldable pub constant_zero : List ℕ → Function
constant_zero name = function_without_registers name (lines_of (Return (const 0) ∷ []))

-- fun main(n; r) { 1: op r = n * 2 -> 2   2: print r -> 3   3: return r }
unfoldable pub double : Function
double = function_of (codes "main") (lines_of (
    Op (record { 0 = 1 }) (Mul n (const 2)) (to 2)
    ∷ Print r (to 3)
    ∷ Return r
    ∷ []))

-- fun main(n; r) { 1: cond n -> 2, 4   2: op r = n - 1 -> 3   3: call r = main(r) -> 4   4: return n }
unfoldable pub recursion : Function
recursion = function_of (codes "main") (lines_of (
    Cond n (to 2) (to 4)
    ∷ Op (record { 0 = 1 }) (Sub n (const 1)) (to 3)
    ∷ Call (record { 0 = 1 }) (record { 0 = 0 }) (r ∷ []) (to 4)
    ∷ Return n
    ∷ []))

-- fun jump() { 1: nop -> 3   2: nop -> 1   3: return 7 }
unfoldable pub jump : Function
jump = function_without_registers (codes "jump") (lines_of (
    Nop (to 3)
    ∷ Nop (to 1)
    ∷ Return (const 7)
    ∷ []))
