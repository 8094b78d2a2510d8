-- Values and registers of expressions with other operands.
use Rattle.std.proofs.Common.{◌≡◌, ℕ, List, Some, ap, ap₂}
use Rattle.std.specs.Prelude.{ℤ, pos, ◌-ℤ◌, ◌*ℤ◌, ◌+ℤ◌, neg_ℤ, int_div, int_rem, int_lt}
use Rattle.std.specs.Ordering.{int_eq}
use Rattle.cj_ir.specs.Values.{operand_value, expr_value, wrap, divided, as_number, IsOperandWithin, IsExprWithin}
use Rattle.cj_ir.specs.declared.language.Operand.{Operand}
use Rattle.cj_ir.specs.declared.language.Expr.{Expr}
use Rattle.cj_ir.specs.declared.language.Expr.TheVariants.{Copy, Neg, Eqz, Add, Sub, Mul, Div, Rem, Eq, Lt}
use Rattle.cj_draft.specs.Operands.{with_operands}

-- operands with the same values give the same value
pub operands_value : (f : Operand → Operand) (one other : List ℤ) → ((o : Operand) → operand_value one (f o) ≡ operand_value other o) → (e : Expr) →
    expr_value one (with_operands f e) ≡ expr_value other e
unfolding with_operands
operands_value f one other same (Copy a) = ap Some (same a)
operands_value f one other same (Neg a) = ap (λ v. Some (wrap (neg_ℤ v))) (same a)
operands_value f one other same (Eqz a) = ap (λ v. Some (as_number (int_eq v (pos 0)))) (same a)
operands_value f one other same (Add a b) = ap₂ (λ v w. Some (wrap (v +ℤ w))) (same a) (same b)
operands_value f one other same (Sub a b) = ap₂ (λ v w. Some (wrap (v -ℤ w))) (same a) (same b)
operands_value f one other same (Mul a b) = ap₂ (λ v w. Some (wrap (v *ℤ w))) (same a) (same b)
operands_value f one other same (Div a b) = ap₂ (divided int_div) (same a) (same b)
operands_value f one other same (Rem a b) = ap₂ (divided int_rem) (same a) (same b)
operands_value f one other same (Eq a b) = ap₂ (λ v w. Some (as_number (int_eq v w))) (same a) (same b)
operands_value f one other same (Lt a b) = ap₂ (λ v w. Some (as_number (int_lt v w))) (same a) (same b)

-- operands whose registers are below a count give an expression whose registers are
pub operands_within : (f : Operand → Operand) (n n' : ℕ) → ((o : Operand) → IsOperandWithin n o → IsOperandWithin n' (f o)) → (e : Expr) → IsExprWithin n e →
    IsExprWithin n' (with_operands f e)
unfolding with_operands
operands_within f n n' within (Copy a) h = within a h
operands_within f n n' within (Neg a) h = within a h
operands_within f n n' within (Eqz a) h = within a h
operands_within f n n' within (Add a b) h = (within a h.0, within b h.1)
operands_within f n n' within (Sub a b) h = (within a h.0, within b h.1)
operands_within f n n' within (Mul a b) h = (within a h.0, within b h.1)
operands_within f n n' within (Div a b) h = (within a h.0, within b h.1)
operands_within f n n' within (Rem a b) h = (within a h.0, within b h.1)
operands_within f n n' within (Eq a b) h = (within a h.0, within b h.1)
operands_within f n n' within (Lt a b) h = (within a h.0, within b h.1)
