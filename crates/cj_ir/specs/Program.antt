-- What stands where in a program.
use Rattle.std.specs.Prelude.{ℕ, length, Option, Some, None, slice_get}
use Rattle.std.specs.Option.{option_and_then, option_map}
use Rattle.cj_ir.specs.declared.language.FunId.{FunId}
use Rattle.cj_ir.specs.declared.language.Label.{Label}
use Rattle.cj_ir.specs.declared.language.Line.{Line}
use Rattle.cj_ir.specs.declared.language.Instr.{Instr}
use Rattle.cj_ir.specs.declared.language.Function.{Function}
use Rattle.cj_ir.specs.declared.language.Program.{Program}

-- the function of that number, if there is one
abbrev pub function_at : Program → FunId → Option Function
function_at p f = slice_get p.functions f.0

-- the line at that label, if there is one
abbrev pub line_at : Program → FunId → Label → Option Line
line_at p f l = option_and_then (λ g. slice_get g.code l.0) (function_at p f)

-- the instruction of that line
abbrev pub instr_at : Program → FunId → Label → Option Instr
instr_at p f l = option_map (λ line. line.instr) (line_at p f l)

-- Counts of a function, which are 0 where there is no such function. So a number below one of them says
-- that the function exists, and one that equals it says nothing of that.

abbrev pub params_of : Option Function → ℕ
params_of None = 0
params_of (Some g) = g.params

abbrev pub regs_of : Option Function → ℕ
regs_of None = 0
regs_of (Some g) = length g.regs

abbrev pub labels_of : Option Function → ℕ
labels_of None = 0
labels_of (Some g) = length g.code

abbrev pub param_count : Program → FunId → ℕ
param_count p f = params_of (function_at p f)

abbrev pub reg_count : Program → FunId → ℕ
reg_count p f = regs_of (function_at p f)

abbrev pub label_count : Program → FunId → ℕ
label_count p f = labels_of (function_at p f)
