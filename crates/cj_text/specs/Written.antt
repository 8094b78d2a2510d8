-- What the types of a program and its script hold: names are names, texts are texts of a `fail`, and each value is
-- from -2^63 to 2^63 - 1.
use Rattle.std.specs.Prelude.{◌≡◌, ℕ, ℤ, ◌<◌, ◌^◌, List, All, ⊤, true}
use lib.Signed.{mag}
use Rattle.cj_ir.specs.Texts.{is_name, is_fail_text}
use Rattle.cj_ir.specs.declared.language.Expr.{Expr}
use Rattle.cj_ir.specs.declared.language.Expr.TheVariants.{Copy, Neg, Eqz, Add, Sub, Mul, Div, Rem, Eq, Lt}
use Rattle.cj_ir.specs.declared.language.Function.{Function}
use Rattle.cj_ir.specs.declared.language.Instr.{Instr}
use Rattle.cj_ir.specs.declared.language.Instr.TheVariants.{Nop, Op, Cond, Call, Return, Print, Load, Store, Fail}
use Rattle.cj_ir.specs.declared.language.Operand.{Operand}
use Rattle.cj_ir.specs.declared.language.Operand.TheVariants as operand
use Rattle.cj_ir.specs.declared.language.Program.{Program}
use Rattle.cj_ir.specs.declared.script.Script.{Script}
use Rattle.cj_ir.specs.declared.script.ScriptCall.{ScriptCall}
use Rattle.cj_ir.specs.declared.script.Setup.{Setup}
use Rattle.cj_ir.specs.declared.script.Setup.TheVariants.{Guess, Cold, Warm}

abbrev pub IsName : List ℕ → Type 0
IsName bytes = is_name bytes ≡ true

-- `mag` of a negative number is one less than it is without its sign
abbrev pub IsValue : ℤ → Type 0
IsValue z = mag z < 2 ^ 63

abbrev pub IsOperandWritten : Operand → Type 0
IsOperandWritten (operand.Reg r) = ⊤
IsOperandWritten (operand.Const z) = IsValue z

abbrev pub IsExprWritten : Expr → Type 0
IsExprWritten (Copy a) = IsOperandWritten a
IsExprWritten (Neg a) = IsOperandWritten a
IsExprWritten (Eqz a) = IsOperandWritten a
IsExprWritten (Add a b) = IsOperandWritten a × IsOperandWritten b
IsExprWritten (Sub a b) = IsOperandWritten a × IsOperandWritten b
IsExprWritten (Mul a b) = IsOperandWritten a × IsOperandWritten b
IsExprWritten (Div a b) = IsOperandWritten a × IsOperandWritten b
IsExprWritten (Rem a b) = IsOperandWritten a × IsOperandWritten b
IsExprWritten (Eq a b) = IsOperandWritten a × IsOperandWritten b
IsExprWritten (Lt a b) = IsOperandWritten a × IsOperandWritten b

abbrev pub IsInstrWritten : Instr → Type 0
IsInstrWritten (Nop next) = ⊤
IsInstrWritten (Op dest e next) = IsExprWritten e
IsInstrWritten (Cond test then_to else_to) = IsOperandWritten test
IsInstrWritten (Call dest callee args next) = All IsOperandWritten args
IsInstrWritten (Return value) = IsOperandWritten value
IsInstrWritten (Print value next) = IsOperandWritten value
IsInstrWritten (Load dest address next) = IsOperandWritten address
IsInstrWritten (Store address value next) = IsOperandWritten address × IsOperandWritten value
IsInstrWritten (Fail text) = is_fail_text text ≡ true

pub record IsFunctionWritten (f : Function) : Type 0 where
  pub name : IsName f.name
  pub registers : All IsName f.regs
  pub instructions : All (λ line. IsInstrWritten line.instr) f.code

abbrev pub IsProgramWritten : Program → Type 0
IsProgramWritten p = All IsFunctionWritten p.functions

abbrev pub IsSetupWritten : Setup → Type 0
IsSetupWritten (Guess function param value) = IsValue value
IsSetupWritten (Cold function label edge) = ⊤
IsSetupWritten (Warm function level) = ⊤

abbrev pub IsCallWritten : ScriptCall → Type 0
IsCallWritten call = All IsValue call.args

pub record IsScriptWritten (s : Script) : Type 0 where
  pub setups : All IsSetupWritten s.setups
  pub calls : All IsCallWritten s.calls
