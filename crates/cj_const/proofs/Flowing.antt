-- Facts of a consistent table hold along every edge that a run takes.
use Rattle.std.proofs.Common.{◌≡◌, ℕ, ◌<◌, ◌==◌, true, List, [], ◌∷◌, length, Option, Some, None, refl, sym, ap, ◌∙◌, subst, ⊎_elim, arith, length-set}
use Rattle.std.specs.Prelude.{ℤ, pos, All, Contains, slice_set}
use Rattle.std.specs.Option.{option_and_then}
use Rattle.std.specs.Ordering.{int_eq}
use Rattle.std.proofs.lemmas.Option.{none-some, same_Some}
use Rattle.std.proofs.lemmas.List.{get_or-set_same, get_or-set_other}
use Rattle.std.proofs.lemmas.List.Elements.{All-weaker, All-head, All-tail}
use Rattle.std.proofs.lemmas.Bool.{cases_eq, and_parts, eq-eqb, cond-true}
use Rattle.std.proofs.lemmas.Bool.Decides.{Decides-int_eq}
use Rattle.cj_ir.specs.Values.{register, operand_value, expr_value}
use Rattle.cj_ir.specs.declared.language.Label.{Label}
use Rattle.cj_ir.specs.declared.language.Reg.{Reg}
use Rattle.cj_ir.specs.declared.language.Guard.{Guard}
use Rattle.cj_ir.specs.declared.language.Guard.TheVariants.{Is, Never}
use Rattle.cj_ir.proofs.Members.{contains-head}
use Rattle.cj_base.specs.Machine.{Effect, On, Fault, branch, cell, with_cell, op_effect, load_effect, store_effect}
use Rattle.cj_base.specs.Machine as machine
use Rattle.cj_draft.specs.declared.facts.Fact.{Fact}
use Rattle.cj_draft.specs.declared.facts.Facts.{Facts}
use Rattle.cj_draft.specs.declared.facts.Facts.TheVariants.{Unreached, Known}
use Rattle.cj_draft.specs.declared.instructions.Pair.{Pair}
use Rattle.cj_draft.specs.declared.instructions.VInstr.{VInstr}
use Rattle.cj_draft.specs.declared.instructions.VInstr.TheVariants.{Nop, Op, Move, Cond, Call, Return, Print, Load, Store, Fail, Assume, Anchor}
use Rattle.cj_draft.specs.Effects.{Plain, guard_holds, guards_hold, moved, version_effect}
use Rattle.cj_draft.specs.Arrives.{Allows}
use Rattle.cj_draft.proofs.Refine.{Flows}
use Rattle.cj_draft.proofs.EdgeLemmas.{branch_among}
use Rattle.cj_draft.specs.Edges.{successors}
use Rattle.cj_const.specs.declared.knowledge.Outcome.{Outcome}
use Rattle.cj_const.specs.declared.knowledge.Outcome.TheVariants.{Unknown, Value, ZeroDivisor}
use Rattle.cj_const.specs.Knowledge.{Knowledge, with_known, known_value, folded_operands, evaluated}
use Rattle.cj_const.specs.Flow.{after_op, after_move, along, with_value, with_guard, with_guards, leaves, facts_at, IsWithin}
use Rattle.cj_const.specs.Search.{WritesWithin}
use Rattle.cj_const.proofs.Monotone.{at-written, at-other}
use Rattle.cj_const.proofs.Effects.{Agrees, known-agrees, operands-effect, evaluated-is, IsOutcome}

-- the registers have the values of what arrives, and something does
abbrev pub AgreesWith : Option Knowledge → List ℤ → Type 0
AgreesWith None regs = ⊥
AgreesWith (Some k) regs = Agrees k regs

within-allows : (facts : Facts) (o : Option Knowledge) (regs : List ℤ) → IsWithin facts o → AgreesWith o regs → Allows facts regs
within-allows facts None regs within agrees = absurd agrees
within-allows Unreached (Some k) regs within agrees = absurd within
within-allows (Known facts) (Some k) regs within agrees =
    All-weaker (λ (x : Fact). k x.reg.0 ≡ Some x.value) (λ (x : Fact). register regs x.reg.0 ≡ x.value) (λ x e. agrees x.reg.0 x.value e) facts within

agrees-set : (k : Knowledge) (regs : List ℤ) (d : ℕ) (o : Option ℤ) (v : ℤ) → Agrees k regs → d < length regs → ((w : ℤ) → o ≡ Some w → v ≡ w) →
    Agrees (with_known k d o) (slice_set regs d v)
agrees-set k regs d o v agrees within at r w e = ⊎_elim
    (λ same. ap (register (slice_set regs d v)) same ∙ get_or-set_same regs d v (pos 0) within ∙ at w (sym (at-written k d r o same) ∙ e))
    (λ other. get_or-set_other regs d r v (pos 0) other ∙ agrees r w (sym (at-other k d r o other) ∙ e))
    (cases_eq r d)

agrees-unknown : (k : Knowledge) (regs : List ℤ) (d : ℕ) (v : ℤ) → Agrees k regs → d < length regs → Agrees (with_known k d None) (slice_set regs d v)
agrees-unknown k regs d v agrees within = agrees-set k regs d None v agrees within (λ w e. absurd (none-some w e))

-- ---- what arrives where the run goes

op-agrees : (k : Knowledge) (regs : List ℤ) (dest : Reg) (x : Outcome) (value : Option ℤ) (v : ℤ) → Agrees k regs → dest.0 < length regs → IsOutcome value x →
    value ≡ Some v → AgreesWith (after_op k dest x) (slice_set regs dest.0 v)
unfolding after_op
op-agrees k regs dest Unknown value v agrees within is e = agrees-unknown k regs dest.0 v agrees within
op-agrees k regs dest (Value w) value v agrees within is e =
    agrees-set k regs dest.0 (Some w) v agrees within (λ u h. same_Some v u (sym e ∙ is ∙ h))
op-agrees k regs dest ZeroDivisor value v agrees within is e = absurd (none-some v (sym is ∙ e))

move-agrees : (k : Knowledge) (regs : List ℤ) (pairs : List Pair) (known : Knowledge) (now : List ℤ) → Agrees k regs → Agrees known now →
    All (λ pair. pair.dest.0 < length now) pairs → Agrees (after_move k pairs known) (moved regs pairs now) × (length (moved regs pairs now) ≡ length now)
unfolding after_move moved
move-agrees k regs [] known now agrees at within = (at, refl)
move-agrees k regs (pair ∷ pairs) known now agrees at within =
    let v : ℤ = operand_value regs pair.value in
    let next : List ℤ = slice_set now pair.dest.0 v in
    let len : length next ≡ length now = length-set now pair.dest.0 v in
    let first = All-head (λ (p : Pair). p.dest.0 < length now) pair pairs within in
    let rest = subst (λ n. All (λ (p : Pair). p.dest.0 < n) pairs) (sym len) (All-tail (λ (p : Pair). p.dest.0 < length now) pair pairs within) in
    let more = move-agrees k regs pairs (with_known known pair.dest.0 (known_value k pair.value)) next agrees
    (agrees-set known now pair.dest.0 (known_value k pair.value) v at first (known-agrees k regs agrees pair.value)) rest in
    (more.0, more.1 ∙ len)

cond-agrees : (k : Knowledge) (regs : List ℤ) (o : Option ℤ) (v : ℤ) (a b : Label) → Agrees k regs → ((w : ℤ) → o ≡ Some w → v ≡ w) →
    AgreesWith (along k o a b (branch v a b)) regs
unfolding along
cond-agrees k regs None v a b agrees at = agrees
cond-agrees k regs (Some w) v a b agrees at =
    let same : (branch w a b).0 ≡ (branch v a b).0 = ap (λ z. (branch z a b).0) (sym (at w refl)) in
    subst (λ (o : Option Knowledge). AgreesWith o regs)
    (sym (cond-true ((branch w a b).0 == (branch v a b).0) (Some k) None (eq-eqb (branch w a b).0 (branch v a b).0 same))) agrees

agrees-more : (k : Knowledge) (regs : List ℤ) (r : ℕ) (v : ℤ) → Agrees k regs → register regs r ≡ v → Agrees (with_known k r (Some v)) regs
agrees-more k regs r v agrees at q w e = ⊎_elim
    (λ same. ap (register regs) same ∙ at ∙ same_Some v w (sym (at-written k r q (Some v) same) ∙ e))
    (λ other. agrees q w (sym (at-other k r q (Some v) other) ∙ e))
    (cases_eq q r)

value-agrees : (k : Knowledge) (regs : List ℤ) (reg : Reg) (v : ℤ) (o : Option ℤ) → Agrees k regs → register regs reg.0 ≡ v →
    ((w : ℤ) → o ≡ Some w → register regs reg.0 ≡ w) → AgreesWith (with_value k reg v o) regs
unfolding with_value
value-agrees k regs reg v None agrees at known = agrees-more k regs reg.0 v agrees at
value-agrees k regs reg v (Some w) agrees at known =
    subst (λ (o : Option Knowledge). AgreesWith o regs) (sym (cond-true (int_eq w v) (Some k) None ((Decides-int_eq w v).1 (sym (known w refl) ∙ at)))) agrees

guard-agrees : (g : Guard) (o : Option Knowledge) (regs : List ℤ) → AgreesWith o regs → guard_holds regs g ≡ true →
    AgreesWith (option_and_then (with_guard g) o) regs
unfolding with_guard guard_holds
guard-agrees g None regs agrees holds = absurd agrees
guard-agrees (Is reg v) (Some k) regs agrees holds =
    value-agrees k regs reg v (k reg.0) agrees ((Decides-int_eq (register regs reg.0) v).0 holds) (agrees reg.0)
guard-agrees Never (Some k) regs agrees holds = absurd (cc)

guards-agree : (guards : List Guard) (o : Option Knowledge) (regs : List ℤ) → AgreesWith o regs → guards_hold regs guards ≡ true →
    AgreesWith (with_guards guards o) regs
unfolding with_guards guards_hold
guards-agree [] o regs agrees holds = agrees
guards-agree (g ∷ guards) o regs agrees holds =
    let h = and_parts (guard_holds regs g) (guards_hold regs guards) holds in
    guards-agree guards (option_and_then (with_guard g) o) regs (guard-agrees g o regs agrees h.0) h.1

-- ---- the effect of an instruction

-- at label x a table admits these registers
abbrev pub Tells : ℕ → List Facts → Label → List ℤ → Type 0
Tells n table x regs = (length regs ≡ n) × Allows (facts_at table x) regs

module _ (n : ℕ) (table : List Facts) (k : Knowledge) (regs : List ℤ) (count : length regs ≡ n) (agrees : Agrees k regs) where
  arrives : (to : Label) (o : Option Knowledge) (regs' : List ℤ) → IsWithin (facts_at table to) o → length regs' ≡ n → AgreesWith o regs' →
      Tells n table to regs'
  arrives to o regs' within count' agrees' = (count', within-allows (facts_at table to) o regs' within agrees')

  value-flows : (o : Option ℤ) (fault : Fault) (go : ℤ → Effect) → ((v : ℤ) → o ≡ Some v → Flows (Tells n table) regs (Plain (go v))) →
      Flows (Tells n table) regs (Plain (machine.with_value o fault go))
  unfolding machine.with_value
  value-flows None fault go h = tt
  value-flows (Some v) fault go h = h v refl

  written : (d : ℕ) (v : ℤ) → length (slice_set regs d v) ≡ n
  written d v = length-set regs d v ∙ count

  pub flows : (instr : VInstr) (m : List ℤ) → WritesWithin n instr →
      ((to : Label) → Contains (successors instr) to → IsWithin (facts_at table to) (leaves k instr to)) →
      Flows (Tells n table) regs (version_effect instr regs m)
  unfolding version_effect op_effect load_effect store_effect successors leaves
  flows (Nop next) m w edges = arrives next (Some k) regs (edges next (contains-head next [])) count agrees
  flows (Op dest e next) m w edges = value-flows (expr_value regs e) machine.ZeroDivisor (λ v. On next (slice_set regs dest.0 v) m []) (λ v is.
      let x : Outcome = evaluated (folded_operands k e) in
      arrives next (after_op k dest x) (slice_set regs dest.0 v) (edges next (contains-head next [])) (written dest.0 v)
      (op-agrees k regs dest x (expr_value regs (folded_operands k e)) v agrees (omega arith) (evaluated-is regs (folded_operands k e))
      (operands-effect k regs agrees e ∙ is)))
  flows (Move pairs next) m w edges =
      let within : All (λ (p : Pair). p.dest.0 < length regs) pairs = subst (λ z. All (λ (p : Pair). p.dest.0 < z) pairs) (sym count) w in
      let h = move-agrees k regs pairs k regs agrees agrees within in
      arrives next (Some (after_move k pairs k)) (moved regs pairs regs) (edges next (contains-head next [])) (h.1 ∙ count) h.0
  flows (Cond test a b) m w edges =
      let v : ℤ = operand_value regs test in
      arrives (branch v a b) (along k (known_value k test) a b (branch v a b)) regs (edges (branch v a b) (branch_among v a b)) count
      (cond-agrees k regs (known_value k test) v a b agrees (known-agrees k regs agrees test))
  flows (Call dest f args next) m w edges = λ v.
      arrives next (Some (with_known k dest.0 None)) (slice_set regs dest.0 v) (edges next (contains-head next [])) (written dest.0 v)
      (agrees-unknown k regs dest.0 v agrees (omega arith))
  flows (Return v) m w edges = tt
  flows (Print v next) m w edges = arrives next (Some k) regs (edges next (contains-head next [])) count agrees
  flows (Load dest a next) m w edges = value-flows (cell m (operand_value regs a)) (machine.BadAddress (operand_value regs a))
      (λ v. On next (slice_set regs dest.0 v) m []) (λ v is.
      arrives next (Some (with_known k dest.0 None)) (slice_set regs dest.0 v) (edges next (contains-head next [])) (written dest.0 v)
      (agrees-unknown k regs dest.0 v agrees (omega arith)))
  flows (Store a v next) m w edges = value-flows (cell m (operand_value regs a)) (machine.BadAddress (operand_value regs a))
      (λ z. On next regs (with_cell m (operand_value regs a) (operand_value regs v)) []) (λ z is.
      arrives next (Some k) regs (edges next (contains-head next [])) count agrees)
  flows (Fail f l) m w edges = tt
  flows (Assume guards b t next) m w edges = λ holds.
      arrives next (with_guards guards (Some k)) regs (edges next (contains-head next [])) count (guards-agree guards (Some k) regs agrees holds)
  flows (Anchor b t next) m w edges = λ holds. arrives next (Some k) regs (edges next (contains-head next [])) count agrees
