-- Over registers that agree with what is known an instruction has the effect of the folded one.
use Rattle.std.proofs.Common.{◌≡◌, ℕ, true, false, List, [], ◌∷◌, map, Option, Some, None, refl, sym, ap, ap₂, ◌∙◌, subst, ⊎_elim}
use Rattle.std.specs.Prelude.{ℤ, pos, ◌+ℤ◌, ◌-ℤ◌, ◌*ℤ◌, neg_ℤ, ◌&&◌, ⊤, slice_set, int_div, int_rem, int_lt}
use Rattle.std.specs.List.{list_any, filter}
use Rattle.std.specs.Ordering.{int_eq}
use Rattle.std.proofs.lemmas.Option.{same_Some}
use Rattle.std.proofs.lemmas.Bool.{cases_Bool, and_parts, or_cases, or_parts, not-true, not-false, and_left, and_right, cond-true, cond-false}
use Rattle.cj_ir.specs.Values.{register, operand_value, expr_value, wrap, as_number, divided}
use Rattle.cj_ir.specs.declared.language.Label.{Label}
use Rattle.cj_ir.specs.declared.language.Guard.{Guard}
use Rattle.cj_ir.specs.declared.language.Guard.TheVariants.{Is, Never}
use Rattle.cj_ir.specs.declared.language.Operand.{Operand}
use Rattle.cj_ir.specs.declared.language.Operand.TheVariants as operand
use Rattle.cj_ir.specs.declared.language.Expr.{Expr}
use Rattle.cj_ir.specs.declared.language.Expr.TheVariants as expr
use Rattle.cj_base.specs.Machine.{On, Calls, Returns, branch, op_effect, load_effect, store_effect}
use Rattle.cj_base.specs.Machine as machine
use Rattle.cj_draft.specs.declared.instructions.Pair.{Pair}
use Rattle.cj_draft.specs.declared.instructions.VInstr.{VInstr}
use Rattle.cj_draft.specs.declared.instructions.VInstr.TheVariants.{Nop, Op, Move, Cond, Call, Return, Print, Load, Store, Fail, Assume, Anchor}
use Rattle.cj_draft.specs.Effects.{Plain, Guarded, guard_holds, guards_hold, moved, version_effect}
use Rattle.cj_draft.proofs.OperandLemmas.{operands_value}
use Rattle.cj_const.specs.declared.knowledge.Outcome.{Outcome}
use Rattle.cj_const.specs.declared.knowledge.Outcome.TheVariants.{Unknown, Value, ZeroDivisor}
use Rattle.cj_const.specs.Knowledge.{Knowledge, known_value, constant_or, folded_operand, folded_operands, is_constant, are_constants, outcome_of, evaluated}
use Rattle.cj_const.specs.Folding.{copy_or, folded_expr, folded_pair, folded_cond, is_other, is_false, is_open_at, is_open, folded_guards, folded_instr}

-- the registers have the values that are known
abbrev pub Agrees : Knowledge → List ℤ → Type 0
Agrees k regs = (r : ℕ) (v : ℤ) → k r ≡ Some v → register regs r ≡ v

-- ---- operands

pub known-agrees : (k : Knowledge) (regs : List ℤ) → Agrees k regs → (o : Operand) (v : ℤ) → known_value k o ≡ Some v → operand_value regs o ≡ v
unfolding known_value
known-agrees k regs agrees (operand.Reg r) v e = agrees r.0 v e
known-agrees k regs agrees (operand.Const c) v e = same_Some c v e

constant-effect : (regs : List ℤ) (o : Operand) (known : Option ℤ) → ((v : ℤ) → known ≡ Some v → operand_value regs o ≡ v) →
    operand_value regs (constant_or o known) ≡ operand_value regs o
unfolding constant_or
constant-effect regs o None h = refl
constant-effect regs o (Some v) h = sym (h v refl)

pub operand-effect : (k : Knowledge) (regs : List ℤ) → Agrees k regs → (o : Operand) → operand_value regs (folded_operand k o) ≡ operand_value regs o
unfolding folded_operand
operand-effect k regs agrees o = constant-effect regs o (known_value k o) (known-agrees k regs agrees o)

args-effect : (k : Knowledge) (regs : List ℤ) → Agrees k regs → (args : List Operand) → map (operand_value regs) (map (folded_operand k) args)
    ≡ map (operand_value regs) args
args-effect k regs agrees [] = refl
args-effect k regs agrees (a ∷ args) = ap₂ (λ (v : ℤ) (vs : List ℤ). v ∷ vs) (operand-effect k regs agrees a) (args-effect k regs agrees args)

-- ---- expressions

pub operands-effect : (k : Knowledge) (regs : List ℤ) → Agrees k regs → (e : Expr) → expr_value regs (folded_operands k e) ≡ expr_value regs e
operands-effect k regs agrees e = operands_value (folded_operand k) regs regs (operand-effect k regs agrees) e

constant-value : (regs : List ℤ) (o : Operand) → is_constant o ≡ true → operand_value [] o ≡ operand_value regs o
unfolding is_constant
constant-value regs (operand.Reg r) e = absurd (cc)
constant-value regs (operand.Const c) e = refl

one-value : (regs : List ℤ) (o : Operand) → is_constant o && true ≡ true → operand_value [] o ≡ operand_value regs o
one-value regs o e = constant-value regs o (and_parts (is_constant o) true e).0

two-value : (regs : List ℤ) (f : ℤ → ℤ → Option ℤ) (a b : Operand) → is_constant a && (is_constant b && true) ≡ true →
    f (operand_value [] a) (operand_value [] b) ≡ f (operand_value regs a) (operand_value regs b)
two-value regs f a b e =
    let h = and_parts (is_constant a) (is_constant b && true) e in
    ap₂ f (constant-value regs a h.0) (one-value regs b h.1)

constants-value : (regs : List ℤ) (e : Expr) → are_constants e ≡ true → expr_value [] e ≡ expr_value regs e
unfolding are_constants
constants-value regs (expr.Copy a) e = ap Some (one-value regs a e)
constants-value regs (expr.Neg a) e = ap (λ v. Some (wrap (neg_ℤ v))) (one-value regs a e)
constants-value regs (expr.Eqz a) e = ap (λ v. Some (as_number (int_eq v (pos 0)))) (one-value regs a e)
constants-value regs (expr.Add a b) e = two-value regs (λ v w. Some (wrap (v +ℤ w))) a b e
constants-value regs (expr.Sub a b) e = two-value regs (λ v w. Some (wrap (v -ℤ w))) a b e
constants-value regs (expr.Mul a b) e = two-value regs (λ v w. Some (wrap (v *ℤ w))) a b e
constants-value regs (expr.Div a b) e = two-value regs (divided int_div) a b e
constants-value regs (expr.Rem a b) e = two-value regs (divided int_rem) a b e
constants-value regs (expr.Eq a b) e = two-value regs (λ v w. Some (as_number (int_eq v w))) a b e
constants-value regs (expr.Lt a b) e = two-value regs (λ v w. Some (as_number (int_lt v w))) a b e

-- what an outcome says of the value over registers
abbrev pub IsOutcome : Option ℤ → Outcome → Type 0
IsOutcome value Unknown = ⊤
IsOutcome value (Value v) = value ≡ Some v
IsOutcome value ZeroDivisor = value ≡ None

outcome-is : (o : Option ℤ) → IsOutcome o (outcome_of o)
unfolding outcome_of
outcome-is None = refl
outcome-is (Some v) = refl

pub evaluated-is : (regs : List ℤ) (e : Expr) → IsOutcome (expr_value regs e) (evaluated e)
unfolding evaluated
evaluated-is regs e = ⊎_elim
    (λ yes_. subst (IsOutcome (expr_value regs e)) (sym (cond-true (are_constants e) (outcome_of (expr_value [] e)) Unknown yes_))
    (subst (λ o. IsOutcome o (outcome_of (expr_value [] e))) (constants-value regs e yes_) (outcome-is (expr_value [] e))))
    (λ no_. subst (IsOutcome (expr_value regs e)) (sym (cond-false (are_constants e) (outcome_of (expr_value [] e)) Unknown no_)) tt)
    (cases_Bool (are_constants e))

copy-effect : (regs : List ℤ) (e : Expr) (x : Outcome) → IsOutcome (expr_value regs e) x → expr_value regs (copy_or e x) ≡ expr_value regs e
unfolding copy_or
copy-effect regs e Unknown h = refl
copy-effect regs e (Value v) h = sym h
copy-effect regs e ZeroDivisor h = refl

expr-effect : (k : Knowledge) (regs : List ℤ) → Agrees k regs → (e : Expr) → expr_value regs (folded_expr k e) ≡ expr_value regs e
unfolding folded_expr
expr-effect k regs agrees e =
    copy-effect regs (folded_operands k e) (evaluated (folded_operands k e)) (evaluated-is regs (folded_operands k e)) ∙ operands-effect k regs agrees e

-- ---- moves, conds and guards

moved-effect : (k : Knowledge) (regs : List ℤ) → Agrees k regs → (pairs : List Pair) (now : List ℤ) →
    moved regs (map (folded_pair k) pairs) now ≡ moved regs pairs now
unfolding moved folded_pair
moved-effect k regs agrees [] now = refl
moved-effect k regs agrees (pair ∷ pairs) now =
    ap (λ v. moved regs (map (folded_pair k) pairs) (slice_set now pair.dest.0 v)) (operand-effect k regs agrees pair.value)
    ∙ moved-effect k regs agrees pairs (slice_set now pair.dest.0 (operand_value regs pair.value))

cond-effect : (regs m : List ℤ) (test : Operand) (known : Option ℤ) (a b : Label) → ((v : ℤ) → known ≡ Some v → operand_value regs test ≡ v) →
    version_effect (folded_cond test known a b) regs m ≡ version_effect (Cond test a b) regs m
unfolding version_effect folded_cond
cond-effect regs m test None a b h = refl
cond-effect regs m test (Some v) a b h = ap (λ w. Plain (On (branch w a b) regs m [])) (sym (h v refl))

other-fails : (value v : ℤ) (o : Option ℤ) → ((w : ℤ) → o ≡ Some w → v ≡ w) → is_other value o ≡ true → int_eq v value ≡ false
unfolding is_other
other-fails value v None h e = absurd (cc)
other-fails value v (Some w) h e = ap (λ z. int_eq z value) (h w refl) ∙ not-true (int_eq w value) e

false-fails : (k : Knowledge) (regs : List ℤ) → Agrees k regs → (g : Guard) → is_false k g ≡ true → guard_holds regs g ≡ false
unfolding is_false guard_holds
false-fails k regs agrees Never e = refl
false-fails k regs agrees (Is reg value) e = other-fails value (register regs reg.0) (k reg.0) (agrees reg.0) e

any-false : (k : Knowledge) (regs : List ℤ) → Agrees k regs → (guards : List Guard) → list_any (is_false k) guards ≡ true → guards_hold regs guards ≡ false
unfolding guards_hold
any-false k regs agrees [] e = absurd (cc)
any-false k regs agrees (g ∷ guards) e = ⊎_elim
    (λ here. and_left (guard_holds regs g) (guards_hold regs guards) (false-fails k regs agrees g here))
    (λ later. and_right (guard_holds regs g) (guards_hold regs guards) (any-false k regs agrees guards later))
    (or_cases (is_false k g) (list_any (is_false k) guards) e)

closed-holds : (value v : ℤ) (o : Option ℤ) → ((w : ℤ) → o ≡ Some w → v ≡ w) → is_other value o ≡ false → is_open_at o ≡ false → int_eq v value ≡ true
unfolding is_other is_open_at
closed-holds value v None h e open_ = absurd (cc)
closed-holds value v (Some w) h e open_ = ap (λ z. int_eq z value) (h w refl) ∙ not-false (int_eq w value) e

known-holds : (k : Knowledge) (regs : List ℤ) → Agrees k regs → (g : Guard) → is_false k g ≡ false → is_open k g ≡ false → guard_holds regs g ≡ true
unfolding is_false is_open guard_holds
known-holds k regs agrees Never e open_ = absurd (cc)
known-holds k regs agrees (Is reg value) e open_ = closed-holds value (register regs reg.0) (k reg.0) (agrees reg.0) e open_

open-effect : (k : Knowledge) (regs : List ℤ) → Agrees k regs → (guards : List Guard) → list_any (is_false k) guards ≡ false →
    guards_hold regs (filter (is_open k) guards) ≡ guards_hold regs guards
unfolding guards_hold
open-effect k regs agrees [] e = refl
open-effect k regs agrees (g ∷ guards) e =
    let h = or_parts (is_false k g) (list_any (is_false k) guards) e in
    let rest = open-effect k regs agrees guards h.1 in
    let kept = filter (is_open k) guards in
    ⊎_elim
    (λ yes_. ap (guards_hold regs) (cond-true (is_open k g) (g ∷ kept) kept yes_) ∙ ap (λ b. guard_holds regs g && b) rest)
    (λ no_. ap (guards_hold regs) (cond-false (is_open k g) (g ∷ kept) kept no_) ∙ rest
    ∙ sym (ap (λ b. b && guards_hold regs guards) (known-holds k regs agrees g h.0 no_)))
    (cases_Bool (is_open k g))

guards-effect : (k : Knowledge) (regs : List ℤ) → Agrees k regs → (guards : List Guard) → guards_hold regs (folded_guards k guards) ≡ guards_hold regs guards
unfolding folded_guards guards_hold guard_holds
guards-effect k regs agrees guards = ⊎_elim
    (λ yes_. ap (guards_hold regs) (cond-true (list_any (is_false k) guards) (Never ∷ []) (filter (is_open k) guards) yes_)
    ∙ sym (any-false k regs agrees guards yes_))
    (λ no_. ap (guards_hold regs) (cond-false (list_any (is_false k) guards) (Never ∷ []) (filter (is_open k) guards) no_)
    ∙ open-effect k regs agrees guards no_)
    (cases_Bool (list_any (is_false k) guards))

-- ---- instructions

pub instr-effect : (k : Knowledge) (regs m : List ℤ) → Agrees k regs → (instr : VInstr) →
    version_effect (folded_instr k instr) regs m ≡ version_effect instr regs m
unfolding version_effect folded_instr op_effect
instr-effect k regs m agrees (Nop next) = refl
instr-effect k regs m agrees (Op dest e next) =
    ap (λ o. Plain (machine.with_value o machine.ZeroDivisor (λ v. On next (slice_set regs dest.0 v) m []))) (expr-effect k regs agrees e)
instr-effect k regs m agrees (Move pairs next) = ap (λ now. Plain (On next now m [])) (moved-effect k regs agrees pairs regs)
instr-effect k regs m agrees (Cond test a b) = cond-effect regs m test (known_value k test) a b (known-agrees k regs agrees test)
instr-effect k regs m agrees (Call dest f args next) = ap (λ vs. Plain (Calls dest f vs next)) (args-effect k regs agrees args)
instr-effect k regs m agrees (Return value) = ap (λ v. Plain (Returns v)) (operand-effect k regs agrees value)
instr-effect k regs m agrees (Print value next) = ap (λ v. Plain (On next regs m (v ∷ []))) (operand-effect k regs agrees value)
instr-effect k regs m agrees (Load dest address next) = ap (λ v. Plain (load_effect dest v next regs m)) (operand-effect k regs agrees address)
instr-effect k regs m agrees (Store address value next) =
    ap₂ (λ v w. Plain (store_effect v w next regs m)) (operand-effect k regs agrees address) (operand-effect k regs agrees value)
instr-effect k regs m agrees (Fail f l) = refl
instr-effect k regs m agrees (Assume guards back target next) = ap (λ b. Guarded b back target next) (guards-effect k regs agrees guards)
instr-effect k regs m agrees (Anchor back target next) = refl
