-- What leaves a label tells no more where less is known.
use Rattle.std.proofs.Common.{◌≡◌, ◌≢◌, ℕ, ◌==◌, Bool, true, false, List, [], ◌∷◌, Option, Some, None, refl, sym, ap, ap₂, ◌∙◌, subst, ⊎_elim}
use Rattle.std.specs.Prelude.{ℤ, ◌&&◌, if◌then◌else◌}
use Rattle.std.specs.Option.{option_and_then}
use Rattle.std.specs.Ordering.{int_eq}
use Rattle.std.proofs.lemmas.Option.{none-some}
use Rattle.std.proofs.lemmas.Bool.{cases_eq, cases_Bool, eq-eqb, ne_eqb, and_parts, cond-true, cond-false}
use Rattle.std.proofs.lemmas.Bool.Decides.{Decides-int_eq}
use Rattle.cj_ir.specs.declared.language.Label.{Label}
use Rattle.cj_ir.specs.declared.language.Reg.{Reg}
use Rattle.cj_ir.specs.declared.language.Guard.{Guard}
use Rattle.cj_ir.specs.declared.language.Guard.TheVariants.{Is, Never}
use Rattle.cj_ir.specs.declared.language.Operand.{Operand}
use Rattle.cj_ir.specs.declared.language.Operand.TheVariants as operand
use Rattle.cj_ir.specs.declared.language.Expr.{Expr}
use Rattle.cj_ir.specs.declared.language.Expr.TheVariants as expr
use Rattle.cj_base.specs.Machine.{branch}
use Rattle.cj_draft.specs.declared.instructions.Pair.{Pair}
use Rattle.cj_draft.specs.declared.instructions.VInstr.{VInstr}
use Rattle.cj_draft.specs.declared.instructions.VInstr.TheVariants.{Nop, Op, Move, Cond, Call, Return, Print, Load, Store, Fail, Assume, Anchor}
use Rattle.cj_draft.specs.Operands.{with_operands}
use Rattle.cj_const.specs.declared.knowledge.Outcome.{Outcome}
use Rattle.cj_const.specs.declared.knowledge.Outcome.TheVariants.{Unknown, Value, ZeroDivisor}
use Rattle.cj_const.specs.Knowledge.{Knowledge, with_known, known_value, constant_or, folded_operand, folded_operands, is_constant, are_constants, evaluated}
use Rattle.cj_const.specs.Flow.{after_op, after_move, along, with_value, with_guard, with_guards, leaves}
use Rattle.cj_const.specs.Search.{TellsNoMore, SaysLess}

-- ---- one register

pub at-written : (k : Knowledge) (d r : ℕ) (o : Option ℤ) → r ≡ d → with_known k d o r ≡ o
unfolding with_known
at-written k d r o e = cond-true (r == d) o (k r) (eq-eqb r d e)

pub at-other : (k : Knowledge) (d r : ℕ) (o : Option ℤ) → r ≢ d → with_known k d o r ≡ k r
unfolding with_known
at-other k d r o e = cond-false (r == d) o (k r) (ne_eqb r d e)

abbrev LessAt : Option ℤ → Option ℤ → Type 0
LessAt o o' = (v : ℤ) → o ≡ Some v → o' ≡ Some v

none-less : (o : Option ℤ) → LessAt None o
none-less o v e = absurd (none-some v e)

with-less : (k k' : Knowledge) (d : ℕ) (o o' : Option ℤ) → TellsNoMore k k' → LessAt o o' → TellsNoMore (with_known k d o) (with_known k' d o')
with-less k k' d o o' less at r v e = ⊎_elim
    (λ same. at-written k' d r o' same ∙ at v (sym (at-written k d r o same) ∙ e))
    (λ other. at-other k' d r o' other ∙ less r v (sym (at-other k d r o other) ∙ e))
    (cases_eq r d)

pub value-less : (k k' : Knowledge) (o : Operand) → TellsNoMore k k' → (v : ℤ) → known_value k o ≡ Some v → known_value k' o ≡ Some v
unfolding known_value
value-less k k' (operand.Reg r) less v e = less r.0 v e
value-less k k' (operand.Const c) less v e = e

-- ---- expressions

register-same : (r : Reg) (known known' : Option ℤ) → LessAt known known' → is_constant (constant_or (operand.Reg r) known) ≡ true →
    constant_or (operand.Reg r) known' ≡ constant_or (operand.Reg r) known
unfolding constant_or is_constant
register-same r (Some v) known' at e = ap (constant_or (operand.Reg r)) (at v refl)
register-same r None known' at e = absurd (cc)

operand-same : (k k' : Knowledge) (o : Operand) → TellsNoMore k k' → is_constant (folded_operand k o) ≡ true → folded_operand k' o ≡ folded_operand k o
unfolding folded_operand known_value constant_or
operand-same k k' (operand.Reg r) less e = register-same r (k r.0) (k' r.0) (less r.0) e
operand-same k k' (operand.Const c) less e = refl

one-same : (k k' : Knowledge) (a : Operand) → TellsNoMore k k' → is_constant (folded_operand k a) && true ≡ true → folded_operand k' a ≡ folded_operand k a
one-same k k' a less e = operand-same k k' a less (and_parts (is_constant (folded_operand k a)) true e).0

two-same : (k k' : Knowledge) (f : Operand → Operand → Expr) (a b : Operand) → TellsNoMore k k' →
    is_constant (folded_operand k a) && (is_constant (folded_operand k b) && true) ≡ true →
    f (folded_operand k' a) (folded_operand k' b) ≡ f (folded_operand k a) (folded_operand k b)
two-same k k' f a b less e =
    let h = and_parts (is_constant (folded_operand k a)) (is_constant (folded_operand k b) && true) e in
    ap₂ f (operand-same k k' a less h.0) (one-same k k' b less h.1)

operands-same : (k k' : Knowledge) (e : Expr) → TellsNoMore k k' → are_constants (folded_operands k e) ≡ true → folded_operands k' e ≡ folded_operands k e
unfolding with_operands are_constants
operands-same k k' (expr.Copy a) less e = ap expr.Copy (one-same k k' a less e)
operands-same k k' (expr.Neg a) less e = ap expr.Neg (one-same k k' a less e)
operands-same k k' (expr.Eqz a) less e = ap expr.Eqz (one-same k k' a less e)
operands-same k k' (expr.Add a b) less e = two-same k k' expr.Add a b less e
operands-same k k' (expr.Sub a b) less e = two-same k k' expr.Sub a b less e
operands-same k k' (expr.Mul a b) less e = two-same k k' expr.Mul a b less e
operands-same k k' (expr.Div a b) less e = two-same k k' expr.Div a b less e
operands-same k k' (expr.Rem a b) less e = two-same k k' expr.Rem a b less e
operands-same k k' (expr.Eq a b) less e = two-same k k' expr.Eq a b less e
operands-same k k' (expr.Lt a b) less e = two-same k k' expr.Lt a b less e

op-less : (k k' : Knowledge) (dest : Reg) (x : Outcome) → TellsNoMore k k' → SaysLess (after_op k dest x) (after_op k' dest x)
unfolding after_op
op-less k k' dest Unknown less = with-less k k' dest.0 None None less (none-less None)
op-less k k' dest (Value v) less = with-less k k' dest.0 (Some v) (Some v) less (λ w e. e)
op-less k k' dest ZeroDivisor less = tt

unknown-less : (k k' : Knowledge) (dest : Reg) (x : Outcome) → TellsNoMore k k' → SaysLess (after_op k dest Unknown) (after_op k' dest x)
unfolding after_op
unknown-less k k' dest Unknown less = with-less k k' dest.0 None None less (none-less None)
unknown-less k k' dest (Value v) less = with-less k k' dest.0 None (Some v) less (none-less (Some v))
unknown-less k k' dest ZeroDivisor less = tt

unknown : (e : Expr) → are_constants e ≡ false → evaluated e ≡ Unknown
unfolding evaluated
unknown e no_ = cond-false (are_constants e) _ Unknown no_

expr-less : (k k' : Knowledge) (dest : Reg) (e : Expr) → TellsNoMore k k' →
    SaysLess (after_op k dest (evaluated (folded_operands k e))) (after_op k' dest (evaluated (folded_operands k' e)))
expr-less k k' dest e less = ⊎_elim
    (λ yes_. subst (λ x. SaysLess (after_op k dest (evaluated (folded_operands k e))) (after_op k' dest (evaluated x))) (sym (operands-same k k' e less yes_))
    (op-less k k' dest (evaluated (folded_operands k e)) less))
    (λ no_. subst (λ x. SaysLess (after_op k dest x) (after_op k' dest (evaluated (folded_operands k' e)))) (sym (unknown (folded_operands k e) no_))
    (unknown-less k k' dest (evaluated (folded_operands k' e)) less))
    (cases_Bool (are_constants (folded_operands k e)))

-- ---- moves, conds and guards

move-less : (k k' : Knowledge) (pairs : List Pair) (now now' : Knowledge) → TellsNoMore k k' → TellsNoMore now now' →
    TellsNoMore (after_move k pairs now) (after_move k' pairs now')
unfolding after_move
move-less k k' [] now now' less at = at
move-less k k' (pair ∷ pairs) now now' less at =
    move-less k k' pairs (with_known now pair.dest.0 (known_value k pair.value)) (with_known now' pair.dest.0 (known_value k' pair.value)) less
    (with-less now now' pair.dest.0 (known_value k pair.value) (known_value k' pair.value) at (value-less k k' pair.value less))

if-less : (b : Bool) (k k' : Knowledge) → TellsNoMore k k' → SaysLess (if b then Some k else None) (if b then Some k' else None)
if-less true k k' less = less
if-less false k k' less = tt

if-more : (b : Bool) (k k' : Knowledge) → TellsNoMore k k' → SaysLess (Some k) (if b then Some k' else None)
if-more true k k' less = less
if-more false k k' less = tt

along-less : (k k' : Knowledge) (o o' : Option ℤ) (a b to : Label) → TellsNoMore k k' → LessAt o o' → SaysLess (along k o a b to) (along k' o' a b to)
unfolding along
along-less k k' None None a b to less at = less
along-less k k' None (Some w) a b to less at = if-more ((branch w a b).0 == to.0) k k' less
along-less k k' (Some v) o' a b to less at =
    subst (λ z. SaysLess (along k (Some v) a b to) (along k' z a b to)) (sym (at v refl)) (if-less ((branch v a b).0 == to.0) k k' less)

guarded-less : (b : Bool) (k k' : Knowledge) (r : ℕ) (v : ℤ) → TellsNoMore k k' → (b ≡ true → k' r ≡ Some v) →
    SaysLess (Some (with_known k r (Some v))) (if b then Some k' else None)
guarded-less false k k' r v less at = tt
guarded-less true k k' r v less at = λ q w e. ⊎_elim
    (λ same. ap k' same ∙ at refl ∙ sym (at-written k r q (Some v) same) ∙ e)
    (λ other. less q w (sym (at-other k r q (Some v) other) ∙ e))
    (cases_eq q r)

value_guard-less : (k k' : Knowledge) (reg : Reg) (v : ℤ) (o o' : Option ℤ) → TellsNoMore k k' → k' reg.0 ≡ o' → LessAt o o' →
    SaysLess (with_value k reg v o) (with_value k' reg v o')
unfolding with_value
value_guard-less k k' reg v None None less is at = with-less k k' reg.0 (Some v) (Some v) less (λ w e. e)
value_guard-less k k' reg v None (Some w) less is at =
    guarded-less (int_eq w v) k k' reg.0 v less (λ yes_. is ∙ ap Some ((Decides-int_eq w v).0 yes_))
value_guard-less k k' reg v (Some w) o' less is at =
    subst (λ z. SaysLess (with_value k reg v (Some w)) (with_value k' reg v z)) (sym (at w refl)) (if-less (int_eq w v) k k' less)

guard-less : (guard : Guard) (o o' : Option Knowledge) → SaysLess o o' → SaysLess (option_and_then (with_guard guard) o) (option_and_then (with_guard guard) o')
unfolding with_guard
guard-less guard o None less = tt
guard-less guard None (Some k') less = absurd less
guard-less (Is reg v) (Some k) (Some k') less = value_guard-less k k' reg v (k reg.0) (k' reg.0) less refl (less reg.0)
guard-less Never (Some k) (Some k') less = tt

guards-less : (guards : List Guard) (o o' : Option Knowledge) → SaysLess o o' → SaysLess (with_guards guards o) (with_guards guards o')
unfolding with_guards
guards-less [] o o' less = less
guards-less (guard ∷ guards) o o' less = guards-less guards (option_and_then (with_guard guard) o) (option_and_then (with_guard guard) o')
    (guard-less guard o o' less)

-- ---- instructions

pub leaves-less : (k k' : Knowledge) (instr : VInstr) (to : Label) → TellsNoMore k k' → SaysLess (leaves k instr to) (leaves k' instr to)
unfolding leaves
leaves-less k k' (Nop next) to less = less
leaves-less k k' (Op dest e next) to less = expr-less k k' dest e less
leaves-less k k' (Move pairs next) to less = move-less k k' pairs k k' less less
leaves-less k k' (Cond test a b) to less = along-less k k' (known_value k test) (known_value k' test) a b to less (value-less k k' test less)
leaves-less k k' (Call dest f args next) to less = with-less k k' dest.0 None None less (none-less None)
leaves-less k k' (Return v) to less = tt
leaves-less k k' (Print v next) to less = less
leaves-less k k' (Load dest a next) to less = with-less k k' dest.0 None None less (none-less None)
leaves-less k k' (Store a v next) to less = less
leaves-less k k' (Fail f l) to less = tt
leaves-less k k' (Assume guards b t next) to less = guards-less guards (Some k) (Some k') less
leaves-less k k' (Anchor b t next) to less = less
