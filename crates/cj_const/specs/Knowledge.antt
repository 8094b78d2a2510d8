-- What is known of registers, and what follows for operands and expressions.
use Rattle.std.specs.Prelude.{ℕ, zero, suc, ◌==◌, List, [], ◌∷◌, ◌++◌, Option, Some, None, Bool, true, false, ℤ, if◌then◌else◌, slice_index_or}
use Rattle.std.specs.List.{list_all}
use Rattle.cj_ir.specs.Values.{expr_value, expr_operands}
use Rattle.cj_ir.specs.declared.language.Operand.{Operand}
use Rattle.cj_ir.specs.declared.language.Operand.TheVariants as operand
use Rattle.cj_ir.specs.declared.language.Expr.{Expr}
use Rattle.cj_draft.specs.declared.facts.Fact.{Fact}
use Rattle.cj_draft.specs.Operands.{with_operands}
use Rattle.cj_const.specs.declared.knowledge.Outcome.{Outcome}
use Rattle.cj_const.specs.declared.knowledge.Outcome.TheVariants.{Unknown, Value, ZeroDivisor}

-- for each register its value, where it is known
abbrev pub Knowledge : Type 0
Knowledge = ℕ → Option ℤ

-- what facts tell: the value of a register's first fact
unfoldable pub told_by : List Fact → Knowledge
told_by [] r = None
told_by (x ∷ facts) r = if x.reg.0 == r then Some x.value else told_by facts r

-- the knowledge with this of one register, in the place of what was known of it
unfoldable pub with_known : Knowledge → ℕ → Option ℤ → Knowledge
with_known k dest now r = if r == dest then now else k r

-- an operand's value, where it is a constant or its register's is known
unfoldable pub known_value : Knowledge → Operand → Option ℤ
known_value k (operand.Reg r) = k r.0
known_value k (operand.Const c) = Some c

unfoldable pub constant_or : Operand → Option ℤ → Operand
constant_or o None = o
constant_or o (Some v) = operand.Const v

-- the operand, and a constant in its place where its value is known
unfoldable pub folded_operand : Knowledge → Operand → Operand
folded_operand k o = constant_or o (known_value k o)

-- the same of each operand of an expression
abbrev pub folded_operands : Knowledge → Expr → Expr
folded_operands k e = with_operands (folded_operand k) e

unfoldable pub is_constant : Operand → Bool
is_constant (operand.Reg r) = false
is_constant (operand.Const c) = true

unfoldable pub outcome_of : Option ℤ → Outcome
outcome_of None = ZeroDivisor
outcome_of (Some v) = Value v

unfoldable pub are_constants : Expr → Bool
are_constants e = list_all is_constant (expr_operands e)

-- What is known of an expression's value. Over constants it has the value that it has over any registers.
unfoldable pub evaluated : Expr → Outcome
evaluated e = if are_constants e then outcome_of (expr_value [] e) else Unknown

-- ---- rows: a slot for each register

-- what a row knows; it knows nothing of further registers
unfoldable pub known : List (Option ℤ) → Knowledge
known row r = slice_index_or row r None

-- the row of the first n registers
unfoldable pub row_below : Knowledge → ℕ → List (Option ℤ)
row_below k zero = []
row_below k (suc n) = row_below k n ++ k n ∷ []
