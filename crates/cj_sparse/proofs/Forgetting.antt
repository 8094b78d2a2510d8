-- What leaves an instruction that does not read a register, where nothing is known of that register any more.
use Rattle.std.proofs.Common.{◌≡◌, ◌≢◌, ℕ, ◌==◌, Bool, true, false, List, [], ◌∷◌, Option, Some, None, refl, sym, ap, ap₂, ◌∙◌, subst, ⊎_elim}
use Rattle.std.specs.Prelude.{ℤ, ◌||◌, if◌then◌else◌}
use Rattle.std.specs.List.{list_any}
use Rattle.std.specs.Option.{option_map}
use Rattle.std.specs.Ordering.{int_eq}
use Rattle.std.proofs.Math.Path.{fun_ext}
use Rattle.std.proofs.lemmas.Bool.{cases_eq, eq-eqb, ne_eqb, or_parts}
use Rattle.cj_ir.specs.declared.language.Label.{Label}
use Rattle.cj_ir.specs.declared.language.Reg.{Reg}
use Rattle.cj_ir.specs.declared.language.Guard.{Guard}
use Rattle.cj_ir.specs.declared.language.Guard.TheVariants.{Is, Never}
use Rattle.cj_ir.specs.declared.language.Operand.{Operand}
use Rattle.cj_ir.specs.declared.language.Operand.TheVariants as operand
use Rattle.cj_ir.specs.declared.language.Expr.{Expr}
use Rattle.cj_ir.specs.declared.language.Expr.TheVariants as expr
use Rattle.cj_ir.specs.Values.{expr_operands}
use Rattle.cj_base.specs.Machine.{branch}
use Rattle.cj_draft.specs.declared.instructions.Pair.{Pair}
use Rattle.cj_draft.specs.declared.instructions.VInstr.{VInstr}
use Rattle.cj_draft.specs.declared.instructions.VInstr.TheVariants.{Nop, Op, Move, Cond, Call, Return, Print, Load, Store, Fail, Assume, Anchor}
use Rattle.cj_draft.specs.Operands.{with_operands}
use Rattle.cj_const.specs.declared.knowledge.Outcome.{Outcome}
use Rattle.cj_const.specs.declared.knowledge.Outcome.TheVariants.{Unknown, Value, ZeroDivisor}
use Rattle.cj_const.specs.Knowledge.{Knowledge, with_known, known_value, constant_or, folded_operand, folded_operands, evaluated}
use Rattle.cj_const.specs.Flow.{after_op, after_move, along, with_value, with_guard, with_guards, leaves}
use Rattle.cj_const.proofs.Monotone.{at-written, at-other}
use Rattle.cj_sparse.specs.Reading.{is_register, is_guarded, reads, assigns}

-- nothing is known of the register
abbrev pub without : ℕ → Knowledge → Knowledge
without r k = with_known k r None

-- ---- two writes

pub write-twice : (k : Knowledge) (r : ℕ) (o o' : Option ℤ) → with_known (with_known k r o) r o' ≡ with_known k r o'
write-twice k r o o' = fun_ext at
  where
    at : (x : ℕ) → with_known (with_known k r o) r o' x ≡ with_known k r o' x
    at x = ⊎_elim
        (λ same. at-written (with_known k r o) r x o' same ∙ sym (at-written k r x o' same))
        (λ other. at-other (with_known k r o) r x o' other ∙ at-other k r x o other ∙ sym (at-other k r x o' other))
        (cases_eq x r)

pub writes-commute : (k : Knowledge) (r d : ℕ) (o o' : Option ℤ) → d ≢ r → with_known (with_known k r o) d o' ≡ with_known (with_known k d o') r o
writes-commute k r d o o' apart = fun_ext at
  where
    at : (x : ℕ) → with_known (with_known k r o) d o' x ≡ with_known (with_known k d o') r o x
    at x = ⊎_elim
        (λ same.
        let other : x ≢ r = λ e. apart (sym same ∙ e) in
        at-written (with_known k r o) d x o' same ∙ sym (at-other (with_known k d o') r x o other ∙ at-written k d x o' same))
        (λ other. ⊎_elim
        (λ is. at-other (with_known k r o) d x o' other ∙ at-written k r x o is ∙ sym (at-written (with_known k d o') r x o is))
        (λ not. at-other (with_known k r o) d x o' other ∙ at-other k r x o not ∙ sym (at-other (with_known k d o') r x o not ∙ at-other k d x o' other))
        (cases_eq x r))
        (cases_eq x d)

-- what was not known is forgotten already
pub without-unknown : (k : Knowledge) (r : ℕ) → k r ≡ None → without r k ≡ k
without-unknown k r none = fun_ext at
  where
    at : (x : ℕ) → with_known k r None x ≡ k x
    at x = ⊎_elim
        (λ same. at-written k r x None same ∙ sym none ∙ ap k (sym same))
        (λ other. at-other k r x None other)
        (cases_eq x r)

-- ---- operands

apart-from : (a r : ℕ) → (a == r) ≡ false → a ≢ r
apart-from a r no_ same = absurd (true-false (sym (eq-eqb a r same) ∙ no_))
  where
    true-false : true ≡ false → ⊥
    true-false e = cc

value-same : (k : Knowledge) (r : ℕ) (o : Operand) → is_register r o ≡ false → known_value (without r k) o ≡ known_value k o
unfolding is_register known_value
value-same k r (operand.Reg reg) no_ = at-other k r reg.0 None (apart-from reg.0 r no_)
value-same k r (operand.Const c) no_ = refl

folded-same : (k : Knowledge) (r : ℕ) (o : Operand) → is_register r o ≡ false → folded_operand (without r k) o ≡ folded_operand k o
unfolding folded_operand
folded-same k r o no_ = ap (constant_or o) (value-same k r o no_)

one-same : (k : Knowledge) (r : ℕ) (f : Operand → Expr) (a : Operand) → is_register r a || false ≡ false →
    f (folded_operand (without r k) a) ≡ f (folded_operand k a)
one-same k r f a no_ = ap f (folded-same k r a (or_parts (is_register r a) false no_).0)

two-same : (k : Knowledge) (r : ℕ) (f : Operand → Operand → Expr) (a b : Operand) → is_register r a || (is_register r b || false) ≡ false →
    f (folded_operand (without r k) a) (folded_operand (without r k) b) ≡ f (folded_operand k a) (folded_operand k b)
two-same k r f a b no_ =
    let h = or_parts (is_register r a) (is_register r b || false) no_ in
    ap₂ f (folded-same k r a h.0) (folded-same k r b (or_parts (is_register r b) false h.1).0)

operands-same : (k : Knowledge) (r : ℕ) (e : Expr) → list_any (is_register r) (expr_operands e) ≡ false → folded_operands (without r k) e ≡ folded_operands k e
unfolding with_operands
operands-same k r (expr.Copy a) no_ = one-same k r expr.Copy a no_
operands-same k r (expr.Neg a) no_ = one-same k r expr.Neg a no_
operands-same k r (expr.Eqz a) no_ = one-same k r expr.Eqz a no_
operands-same k r (expr.Add a b) no_ = two-same k r expr.Add a b no_
operands-same k r (expr.Sub a b) no_ = two-same k r expr.Sub a b no_
operands-same k r (expr.Mul a b) no_ = two-same k r expr.Mul a b no_
operands-same k r (expr.Div a b) no_ = two-same k r expr.Div a b no_
operands-same k r (expr.Rem a b) no_ = two-same k r expr.Rem a b no_
operands-same k r (expr.Eq a b) no_ = two-same k r expr.Eq a b no_
operands-same k r (expr.Lt a b) no_ = two-same k r expr.Lt a b no_

-- ---- ops and moves

op-forgets : (k : Knowledge) (r : ℕ) (dest : Reg) (x : Outcome) → dest.0 ≢ r → after_op (without r k) dest x ≡ option_map (without r) (after_op k dest x)
unfolding after_op
op-forgets k r dest Unknown apart = ap Some (writes-commute k r dest.0 None None apart)
op-forgets k r dest (Value v) apart = ap Some (writes-commute k r dest.0 None (Some v) apart)
op-forgets k r dest ZeroDivisor apart = refl

assigned : (k : Knowledge) (r d : ℕ) (o o' : Option ℤ) → d ≡ r → with_known (with_known k r o) d o' ≡ with_known k d o'
assigned k r d o o' same = subst (λ (x : ℕ). with_known (with_known k x o) d o' ≡ with_known k d o') same (write-twice k d o o')

op-assigns : (k : Knowledge) (r : ℕ) (dest : Reg) (x : Outcome) → dest.0 ≡ r → after_op (without r k) dest x ≡ after_op k dest x
unfolding after_op
op-assigns k r dest Unknown same = ap Some (assigned k r dest.0 None None same)
op-assigns k r dest (Value v) same = ap Some (assigned k r dest.0 None (Some v) same)
op-assigns k r dest ZeroDivisor same = refl

move-same : (k : Knowledge) (r : ℕ) (pairs : List Pair) (now : Knowledge) → list_any (λ pair. is_register r pair.value) pairs ≡ false →
    after_move (without r k) pairs now ≡ after_move k pairs now
unfolding after_move
move-same k r [] now no_ = refl
move-same k r (pair ∷ pairs) now no_ =
    let h = or_parts (is_register r pair.value) (list_any (λ (p : Pair). is_register r p.value) pairs) no_ in
    ap (λ v. after_move (without r k) pairs (with_known now pair.dest.0 v)) (value-same k r pair.value h.0)
    ∙ move-same k r pairs (with_known now pair.dest.0 (known_value k pair.value)) h.1

move-forgets : (k : Knowledge) (r : ℕ) (pairs : List Pair) (now : Knowledge) → list_any (λ pair. is_register r pair.value) pairs ≡ false →
    list_any (λ pair. pair.dest.0 == r) pairs ≡ false → after_move (without r k) pairs (without r now) ≡ without r (after_move k pairs now)
unfolding after_move
move-forgets k r [] now no_ none = refl
move-forgets k r (pair ∷ pairs) now no_ none =
    let h = or_parts (is_register r pair.value) (list_any (λ (p : Pair). is_register r p.value) pairs) no_ in
    let d = or_parts (pair.dest.0 == r) (list_any (λ (p : Pair). p.dest.0 == r) pairs) none in
    ap (after_move (without r k) pairs) (ap (with_known (without r now) pair.dest.0) (value-same k r pair.value h.0)
    ∙ writes-commute now r pair.dest.0 None (known_value k pair.value) (apart-from pair.dest.0 r d.0))
    ∙ move-forgets k r pairs (with_known now pair.dest.0 (known_value k pair.value)) h.1 d.1

-- where a pair assigns the register, what was known of it is not left
move-assigns : (k : Knowledge) (r : ℕ) (pairs : List Pair) (now : Knowledge) → list_any (λ pair. is_register r pair.value) pairs ≡ false →
    list_any (λ pair. pair.dest.0 == r) pairs ≡ true → after_move (without r k) pairs (without r now) ≡ after_move k pairs now
unfolding after_move
move-assigns k r [] now no_ some = absurd (cc)
move-assigns k r (pair ∷ pairs) now no_ some =
    let h = or_parts (is_register r pair.value) (list_any (λ (p : Pair). is_register r p.value) pairs) no_ in
    let value = value-same k r pair.value h.0 in
    ⊎_elim
    (λ same.
    ap (λ v. after_move (without r k) pairs (with_known (without r now) pair.dest.0 v)) value
    ∙ ap (after_move (without r k) pairs) (assigned now r pair.dest.0 None (known_value k pair.value) same)
    ∙ move-same k r pairs (with_known now pair.dest.0 (known_value k pair.value)) h.1)
    (λ apart.
    ap (λ v. after_move (without r k) pairs (with_known (without r now) pair.dest.0 v)) value
    ∙ ap (after_move (without r k) pairs) (writes-commute now r pair.dest.0 None (known_value k pair.value) apart)
    ∙ move-assigns k r pairs (with_known now pair.dest.0 (known_value k pair.value)) h.1
    (or-second (pair.dest.0 == r) (list_any (λ (p : Pair). p.dest.0 == r) pairs) (ne_eqb pair.dest.0 r apart) some))
    (cases_eq pair.dest.0 r)
  where
    or-second : (a b : Bool) → a ≡ false → (a || b) ≡ true → b ≡ true
    or-second a b no_ e = sym (ap (λ x. x || b) no_) ∙ e

-- ---- conds and guards

if-forgets : (b : Bool) (k : Knowledge) (r : ℕ) → (if b then Some (without r k) else None) ≡ option_map (without r) (if b then Some k else None)
if-forgets true k r = refl
if-forgets false k r = refl

along-forgets : (k : Knowledge) (r : ℕ) (o : Option ℤ) (a b to : Label) → along (without r k) o a b to ≡ option_map (without r) (along k o a b to)
unfolding along
along-forgets k r None a b to = refl
along-forgets k r (Some v) a b to = if-forgets ((branch v a b).0 == to.0) k r

with_value-forgets : (k : Knowledge) (r : ℕ) (reg : Reg) (v : ℤ) (o : Option ℤ) → reg.0 ≢ r →
    with_value (without r k) reg v o ≡ option_map (without r) (with_value k reg v o)
unfolding with_value
with_value-forgets k r reg v None apart = ap Some (writes-commute k r reg.0 None (Some v) apart)
with_value-forgets k r reg v (Some w) apart = if-forgets (int_eq w v) k r

guard-forgets : (k : Knowledge) (r : ℕ) (guard : Guard) → is_guarded r guard ≡ false →
    with_guard guard (without r k) ≡ option_map (without r) (with_guard guard k)
unfolding with_guard is_guarded
guard-forgets k r (Is reg v) no_ =
    let apart : reg.0 ≢ r = apart-from reg.0 r no_ in
    ap (with_value (without r k) reg v) (at-other k r reg.0 None apart) ∙ with_value-forgets k r reg v (k reg.0) apart
guard-forgets k r Never no_ = refl

guards-forget : (o : Option Knowledge) (r : ℕ) (guards : List Guard) → list_any (is_guarded r) guards ≡ false →
    with_guards guards (option_map (without r) o) ≡ option_map (without r) (with_guards guards o)
unfolding with_guards
guards-forget o r [] no_ = refl
guards-forget None r (guard ∷ guards) no_ =
    guards-forget None r guards (or_parts (is_guarded r guard) (list_any (is_guarded r) guards) no_).1
guards-forget (Some k) r (guard ∷ guards) no_ =
    let h = or_parts (is_guarded r guard) (list_any (is_guarded r) guards) no_ in
    ap (with_guards guards) (guard-forgets k r guard h.0) ∙ guards-forget (with_guard guard k) r guards h.1

-- ---- instructions

-- a register that is neither read nor assigned: all else leaves as before
pub leaves-forgets : (k : Knowledge) (r : ℕ) (instr : VInstr) (to : Label) → reads instr r ≡ false → assigns instr r ≡ false →
    leaves (without r k) instr to ≡ option_map (without r) (leaves k instr to)
unfolding leaves reads assigns
leaves-forgets k r (Nop next) to no_ none = refl
leaves-forgets k r (Op dest e next) to no_ none =
    ap (λ x. after_op (without r k) dest (evaluated x)) (operands-same k r e no_)
    ∙ op-forgets k r dest (evaluated (folded_operands k e)) (apart-from dest.0 r none)
leaves-forgets k r (Move pairs next) to no_ none = ap Some (move-forgets k r pairs k no_ none)
leaves-forgets k r (Cond test a b) to no_ none =
    ap (λ o. along (without r k) o a b to) (value-same k r test no_) ∙ along-forgets k r (known_value k test) a b to
leaves-forgets k r (Call dest f args next) to no_ none = ap Some (writes-commute k r dest.0 None None (apart-from dest.0 r none))
leaves-forgets k r (Return v) to no_ none = refl
leaves-forgets k r (Print v next) to no_ none = refl
leaves-forgets k r (Load dest a next) to no_ none = ap Some (writes-commute k r dest.0 None None (apart-from dest.0 r none))
leaves-forgets k r (Store a v next) to no_ none = refl
leaves-forgets k r (Fail f l) to no_ none = refl
leaves-forgets k r (Assume guards b t next) to no_ none = guards-forget (Some k) r guards no_
leaves-forgets k r (Anchor b t next) to no_ none = refl

equal-from : (a r : ℕ) → (a == r) ≡ true → a ≡ r
equal-from a r yes_ = ⊎_elim (λ same. same) (λ apart. absurd (false-true (sym (ne_eqb a r apart) ∙ yes_))) (cases_eq a r)
  where
    false-true : false ≡ true → ⊥
    false-true e = cc

-- a register that is assigned and not read: all leaves as before
pub leaves-assigned : (k : Knowledge) (r : ℕ) (instr : VInstr) (to : Label) → reads instr r ≡ false → assigns instr r ≡ true →
    leaves (without r k) instr to ≡ leaves k instr to
unfolding leaves reads assigns
leaves-assigned k r (Nop next) to no_ some = absurd (cc)
leaves-assigned k r (Op dest e next) to no_ some =
    ap (λ x. after_op (without r k) dest (evaluated x)) (operands-same k r e no_)
    ∙ op-assigns k r dest (evaluated (folded_operands k e)) (equal-from dest.0 r some)
leaves-assigned k r (Move pairs next) to no_ some = ap Some (move-assigns k r pairs k no_ some)
leaves-assigned k r (Cond test a b) to no_ some = absurd (cc)
leaves-assigned k r (Call dest f args next) to no_ some = ap Some (assigned k r dest.0 None None (equal-from dest.0 r some))
leaves-assigned k r (Return v) to no_ some = refl
leaves-assigned k r (Print v next) to no_ some = absurd (cc)
leaves-assigned k r (Load dest a next) to no_ some = ap Some (assigned k r dest.0 None None (equal-from dest.0 r some))
leaves-assigned k r (Store a v next) to no_ some = absurd (cc)
leaves-assigned k r (Fail f l) to no_ some = refl
leaves-assigned k r (Assume guards b t next) to no_ some = absurd (cc)
leaves-assigned k r (Anchor b t next) to no_ some = absurd (cc)
