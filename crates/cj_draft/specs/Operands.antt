-- Expressions with other operands.
use Rattle.cj_ir.specs.declared.language.Operand.{Operand}
use Rattle.cj_ir.specs.declared.language.Expr.{Expr}
use Rattle.cj_ir.specs.declared.language.Expr.TheVariants.{Copy, Neg, Eqz, Add, Sub, Mul, Div, Rem, Eq, Lt}

-- the expression with what `f` gives for each of its operands
unfoldable pub with_operands : (Operand → Operand) → Expr → Expr
with_operands f (Copy a) = Copy (f a)
with_operands f (Neg a) = Neg (f a)
with_operands f (Eqz a) = Eqz (f a)
with_operands f (Add a b) = Add (f a) (f b)
with_operands f (Sub a b) = Sub (f a) (f b)
with_operands f (Mul a b) = Mul (f a) (f b)
with_operands f (Div a b) = Div (f a) (f b)
with_operands f (Rem a b) = Rem (f a) (f b)
with_operands f (Eq a b) = Eq (f a) (f b)
with_operands f (Lt a b) = Lt (f a) (f b)
