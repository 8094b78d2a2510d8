-- The program of 32 functions and the script of 256 calls that a number stands for, and their text.
use Rattle.std.specs.Prelude.{ℕ, ◌+◌, ◌-◌, ◌*◌, ◌/◌, ◌%◌, ◌==◌, ℤ, pos, List, [], ◌∷◌, ◌++◌, map, codes, decimal, if◌then◌else◌}
use Rattle.std.specs.Fn.{iterate}
use Rattle.std.specs.List.{range_with_len}
use Rattle.cj_ir.specs.declared.language.Expr.TheVariants.{Add, Sub, Mul, Rem, Lt}
use Rattle.cj_ir.specs.declared.language.Function.{Function}
use Rattle.cj_ir.specs.declared.language.Instr.{Instr}
use Rattle.cj_ir.specs.declared.language.Instr.TheVariants.{Op, Cond, Call, Return, Print, Load, Store}
use Rattle.cj_ir.specs.declared.language.Label.{Label}
use Rattle.cj_ir.specs.declared.language.Line.{Line}
use Rattle.cj_ir.specs.declared.language.Operand.{Operand}
use Rattle.cj_ir.specs.declared.language.Operand.TheVariants as operand
use Rattle.cj_ir.specs.declared.language.Program.{Program}
use Rattle.cj_ir.specs.declared.language.Reg.{Reg}
use Rattle.cj_ir.specs.declared.script.Input.{Input}
use Rattle.cj_ir.specs.declared.script.Script.{Script}
use Rattle.cj_ir.specs.declared.script.ScriptCall.{ScriptCall}
use Rattle.cj_printer.specs.Canonical.{input_text}

-- ---- draws

-- the state behind a draw
unfoldable pub next_state : ℕ → ℕ
next_state x = (x * 1103515245 + 12345) % 2147483648

-- what a draw gives at a state
unfoldable pub drawn : ℕ → ℕ
drawn x = next_state x / 65536

-- the state behind so many draws
unfoldable pub after : ℕ → ℕ → ℕ
after count x = iterate next_state count x

-- ---- functions

-- the registers, of which `a` and `b` are parameters
abbrev pub a : Reg
a = record { 0 = 0 }

abbrev pub b : Reg
b = record { 0 = 1 }

abbrev pub r : Reg
r = record { 0 = 2 }

abbrev pub s : Reg
s = record { 0 = 3 }

abbrev pub t : Reg
t = record { 0 = 4 }

-- a register and a constant, as operands
abbrev pub reg : Reg → Operand
reg it = operand.Reg it

abbrev pub const : ℤ → Operand
const value = operand.Const value

-- the label of the line with that number, which count from 1
abbrev pub to : ℕ → Label
to number = record { 0 = number - 1 }

abbrev pub line : ℕ → Instr → Line
line number instr = record { name = number; instr = instr }

-- the lines of a function with these constants, of which the eighth is given
unfoldable pub lines_of : ℤ → ℤ → ℤ → ℤ → Instr → List Line
lines_of factor divisor bound cell eighth =
    line 1 (Op r (Mul (reg a) (const factor)) (to 2))
    ∷ line 2 (Op s (Rem (reg r) (const divisor)) (to 3))
    ∷ line 3 (Op t (Lt (reg s) (const bound)) (to 4))
    ∷ line 4 (Cond (reg t) (to 5) (to 6))
    ∷ line 5 (Op s (Add (reg s) (reg b)) (to 7))
    ∷ line 6 (Op s (Sub (reg s) (reg b)) (to 7))
    ∷ line 7 (Store (const cell) (reg s) (to 8))
    ∷ line 8 eighth
    ∷ line 9 (Print (reg r) (to 10))
    ∷ line 10 (Return (reg r))
    ∷ []

-- a call of the next function, and in the last one, function 31, a load of the cell
unfoldable pub eighth_of : ℕ → ℤ → Instr
eighth_of index cell =
    if index == 31 then Load r (const cell) (to 9) else Call r (record { 0 = index + 1 }) (reg s ∷ reg b ∷ []) (to 9)

-- `f` and the index
unfoldable pub function_name : ℕ → List ℕ
function_name index = codes "f" ++ decimal index

abbrev pub register_names : List (List ℕ)
register_names = codes "a" ∷ codes "b" ∷ codes "r" ∷ codes "s" ∷ codes "t" ∷ []

unfoldable pub function_of : ℕ → ℤ → ℤ → ℤ → ℤ → Function
function_of index factor divisor bound cell =
    record {
      name = function_name index;
      params = 2;
      regs = register_names;
      code = lines_of factor divisor bound cell (eighth_of index cell);
    }

-- its constants are four draws from a state on
unfoldable pub function_drawn : ℕ → ℕ → Function
function_drawn index x =
    function_of index (pos (drawn x % 97 + 1)) (pos (drawn (after 1 x) % 89 + 2)) (pos (drawn (after 2 x) % 89)) (pos (drawn (after 3 x) % 64))

-- the functions from 0 up to a count: each draws behind those before it
unfoldable pub functions_drawn : ℕ → ℕ → List Function
functions_drawn count number = map (λ i. function_drawn i (after (4 * i) number)) (range_with_len 0 count)

-- ---- the script

-- a call of function 0; its arguments are two draws from a state on
unfoldable pub call_drawn : ℕ → ScriptCall
call_drawn x =
    record {
      function = record { 0 = 0 };
      args = pos (drawn x % 1000) ∷ pos (drawn (after 1 x) % 5) ∷ [];
      cells = 64;
      limit = 15000;
    }

-- so many calls from a state on: each draws behind those before it
unfoldable pub calls_drawn : ℕ → ℕ → List ScriptCall
calls_drawn count x = map (λ k. call_drawn (after (2 * k) x)) (range_with_len 0 count)

-- ---- inputs

unfoldable pub generated_program : ℕ → Program
generated_program number = record { functions = functions_drawn 32 number }

-- the calls draw behind the functions; there are no setups
unfoldable pub generated_script : ℕ → Script
generated_script number = record { setups = []; calls = calls_drawn 256 (after 128 number) }

unfoldable pub generated : ℕ → Input
generated number = record { checked = generated_program number; script = generated_script number }

-- the canonical text
unfoldable pub generated_text : ℕ → List ℕ
generated_text number = input_text (generated number)
