-- What instructions read and assign.
use Rattle.std.specs.Prelude.{ℕ, ◌==◌, Bool, false}
use Rattle.std.specs.List.{list_any}
use Rattle.cj_ir.specs.Values.{expr_operands}
use Rattle.cj_ir.specs.declared.language.Operand.{Operand}
use Rattle.cj_ir.specs.declared.language.Operand.TheVariants as operand
use Rattle.cj_ir.specs.declared.language.Guard.{Guard}
use Rattle.cj_ir.specs.declared.language.Guard.TheVariants.{Is, Never}
use Rattle.cj_draft.specs.declared.instructions.VInstr.{VInstr}
use Rattle.cj_draft.specs.declared.instructions.VInstr.TheVariants.{Op, Move, Cond, Call, Load, Assume}

-- the operand is the register
unfoldable pub is_register : ℕ → Operand → Bool
is_register r (operand.Reg reg) = reg.0 == r
is_register r (operand.Const c) = false

-- the guard is of the register
unfoldable pub is_guarded : ℕ → Guard → Bool
is_guarded r (Is reg value) = reg.0 == r
is_guarded r Never = false

-- what is known of the register decides where the instruction goes on, or what other registers have then
unfoldable pub reads : VInstr → ℕ → Bool
reads (Op dest expr next) r = list_any (is_register r) (expr_operands expr)
reads (Move pairs next) r = list_any (λ pair. is_register r pair.value) pairs
reads (Cond test then_to else_to) r = is_register r test
reads (Assume guards back target next) r = list_any (is_guarded r) guards
reads instr r = false

-- the instruction gives the register a value of its own
unfoldable pub assigns : VInstr → ℕ → Bool
assigns (Op dest expr next) r = dest.0 == r
assigns (Move pairs next) r = list_any (λ pair. pair.dest.0 == r) pairs
assigns (Call dest f args next) r = dest.0 == r
assigns (Load dest address next) r = dest.0 == r
assigns instr r = false
