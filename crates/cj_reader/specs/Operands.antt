-- Registers, operands, expressions and targets: what they mean, and the offences of their tokens.
use Rattle.std.specs.Prelude.{ℤ, pos, negsuc, List, [], ◌++◌, length, Bool, false, not, None, Some, nat_lt, nat_le, unwrap_or}
use Rattle.std.proofs.Common.{inl, inr}
use Rattle.cj_ir.specs.declared.language.Reg.{Reg}
use Rattle.cj_ir.specs.declared.language.Label.{Label}
use Rattle.cj_ir.specs.declared.language.Operand.{Operand}
use Rattle.cj_ir.specs.declared.language.Operand.TheVariants as operands
use Rattle.cj_ir.specs.declared.language.Expr.{Expr}
use Rattle.cj_ir.specs.declared.language.Expr.TheVariants.{Copy, Neg, Eqz, Add, Sub, Mul, Div, Rem, Eq, Lt}
use Rattle.cj_tokens.specs.Lexemes.{Lexeme}
use Rattle.cj_tokens.specs.declared.refusal.Kind.TheVariants.{TooMany, Range, NoRegister, NoLabel}
use Rattle.cj_tokens.specs.declared.refusal.Refused.{Refused}
use Rattle.cj_grammar.specs.Grammar.{Tree}
use Rattle.cj_grammar.specs.Rules.{operand, binary, expr, target}
use Rattle.cj_grammar.specs.Alternatives.{of_binary}
use Rattle.cj_grammar.specs.Reading.{offends_if, missing}
use Rattle.cj_reader.specs.Scopes.{Scope, name_place}
use Rattle.cj_ir.specs.declared.limits.TheConstants.{MAX_LABEL_NAME, MAX_NAME}

-- a NAME of too many bytes
abbrev pub is_long : Lexeme → Bool
is_long t = nat_lt MAX_NAME (length t.text)

-- a NAME as a destination or an operand
abbrev pub register_offences : Scope → Lexeme → List Refused
register_offences s t = offends_if (is_long t) t TooMany ++ missing (name_place s.registers t.text) t NoRegister

abbrev pub register_of : Scope → Lexeme → Reg
register_of s t = record { 0 = unwrap_or (name_place s.registers t.text) 0 }

-- numbers of lines are from 0 to 65,535
abbrev pub is_line_number : ℤ → Bool
is_line_number (pos n) = nat_le n MAX_LABEL_NAME
is_line_number (negsuc n) = false

-- a NUM as a target
abbrev pub label_offences : Scope → Lexeme → List Refused
label_offences s t = offends_if (not (is_line_number t.number)) t Range ++ missing (s.line_at t.number) t NoLabel

abbrev pub label_of : Scope → Lexeme → Label
label_of s t = record { 0 = unwrap_or (s.line_at t.number) 0 }

unfoldable pub target_offences : Scope → Tree target → List Refused
unfolding target
target_offences s (arrow, number) = label_offences s number.token

unfoldable pub target_of : Scope → Tree target → Label
unfolding target
target_of s (arrow, number) = label_of s number.token

unfoldable pub operand_offences : Scope → Tree operand → List Refused
unfolding operand
operand_offences s (inl name) = register_offences s name.token
operand_offences s (inr number) = []

unfoldable pub operand_of : Scope → Tree operand → Operand
unfolding operand
operand_of s (inl name) = operands.Reg (register_of s name.token)
operand_of s (inr number) = operands.Const number.token.number

unfoldable pub binary_of : Tree binary → Operand → Operand → Expr
binary_of =
    of_binary (record { plus = Add; minus = Sub; star = Mul; slash = Div; percent = Rem; equals = Eq; less = Lt })

unfoldable pub expr_offences : Scope → Tree expr → List Refused
unfolding expr
expr_offences s (inl (neg, value)) = operand_offences s value
expr_offences s (inr (inl (eqz, value))) = operand_offences s value
expr_offences s (inr (inr (value, None))) = operand_offences s value
expr_offences s (inr (inr (left, Some (mark, right)))) = operand_offences s left ++ operand_offences s right

unfoldable pub expr_of : Scope → Tree expr → Expr
unfolding expr
expr_of s (inl (neg, value)) = Neg (operand_of s value)
expr_of s (inr (inl (eqz, value))) = Eqz (operand_of s value)
expr_of s (inr (inr (value, None))) = Copy (operand_of s value)
expr_of s (inr (inr (left, Some (mark, right)))) = binary_of mark (operand_of s left) (operand_of s right)
