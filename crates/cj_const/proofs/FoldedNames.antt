-- All that a folded instruction names exists where all that the instruction names does.
use Rattle.std.proofs.Common.{◌≡◌, ℕ, zero, suc, ◌<◌, ◌≤◌, List, [], ◌∷◌, length, map, get_or, Option, Some, None, refl, sym, ap, ◌∙◌, subst, ⊎_elim, arith}
use Rattle.std.specs.Prelude.{ℤ, All}
use Rattle.std.specs.List.{list_any, filter}
use Rattle.std.proofs.lemmas.Bool.{cases_Bool, cond-true, cond-false}
use Rattle.std.proofs.lemmas.List.{length-map}
use Rattle.std.proofs.lemmas.List.Sums.{length-filter, count_by-le-length}
use Rattle.std.proofs.lemmas.List.Elements.{All-weaker, All-map, All-cons, All-nil, All-filter}
use Rattle.cj_ir.specs.Values.{IsOperandWithin, IsExprWithin}
use Rattle.cj_ir.specs.WellFormed.{Takes}
use Rattle.cj_ir.specs.declared.language.Label.{Label}
use Rattle.cj_ir.specs.declared.language.Program.{Program}
use Rattle.cj_ir.specs.declared.language.Guard.{Guard}
use Rattle.cj_ir.specs.declared.language.Guard.TheVariants.{Never}
use Rattle.cj_ir.specs.declared.language.Operand.{Operand}
use Rattle.cj_ir.specs.declared.language.Expr.{Expr}
use Rattle.cj_draft.specs.declared.instructions.Pair.{Pair}
use Rattle.cj_draft.specs.declared.instructions.VInstr.{VInstr}
use Rattle.cj_draft.specs.declared.instructions.VInstr.TheVariants.{Nop, Op, Move, Cond, Call, Return, Print, Load, Store, Fail, Assume, Anchor}
use Rattle.cj_draft.specs.declared.facts.Facts.{Facts}
use Rattle.cj_draft.specs.declared.facts.Facts.TheVariants.{Unreached, Known}
use Rattle.cj_draft.specs.WellNamed.{IsGuardWithin, ArePairsFine, IsVInstrFine, HasFineFacts}
use Rattle.cj_draft.proofs.OperandLemmas.{operands_within}
use Rattle.cj_draft.proofs.EdgeLemmas.{branch_in}
use Rattle.cj_const.specs.declared.knowledge.Outcome.{Outcome}
use Rattle.cj_const.specs.declared.knowledge.Outcome.TheVariants.{Unknown, Value, ZeroDivisor}
use Rattle.cj_const.specs.Knowledge.{Knowledge, told_by, known_value, constant_or, folded_operand, folded_operands, evaluated}
use Rattle.cj_const.specs.Folding.{copy_or, folded_expr, folded_pair, folded_cond, is_false, is_open, folded_guards, folded_instr, folded_by, clash, both}
use Rattle.cj_const.specs.Folding.{facts_below, together_of, together}
use Rattle.cj_const.specs.Search.{WritesWithin}
use Rattle.cj_const.proofs.Told.{below-fine}

-- the registers that an instruction writes are registers
pub writes_within : (P : Program) (n labels : ℕ) (instr : VInstr) → IsVInstrFine P n labels instr → WritesWithin n instr
writes_within P n labels (Nop next) fine = tt
writes_within P n labels (Op dest e next) fine = fine.0
writes_within P n labels (Move pairs next) fine = fine.0.dests
writes_within P n labels (Cond test a b) fine = tt
writes_within P n labels (Call dest f args next) fine = fine.0
writes_within P n labels (Return v) fine = tt
writes_within P n labels (Print v next) fine = tt
writes_within P n labels (Load dest a next) fine = fine.0
writes_within P n labels (Store a v next) fine = tt
writes_within P n labels (Fail f l) fine = tt
writes_within P n labels (Assume guards b t next) fine = fine.1
writes_within P n labels (Anchor b t next) fine = tt

-- ---- operands and expressions

constant-within : (n : ℕ) (o : Operand) (known : Option ℤ) → IsOperandWithin n o → IsOperandWithin n (constant_or o known)
unfolding constant_or
constant-within n o None within = within
constant-within n o (Some v) within = tt

operand-within : (k : Knowledge) (n : ℕ) (o : Operand) → IsOperandWithin n o → IsOperandWithin n (folded_operand k o)
unfolding folded_operand
operand-within k n o within = constant-within n o (known_value k o) within

copy-within : (n : ℕ) (e : Expr) (x : Outcome) → IsExprWithin n e → IsExprWithin n (copy_or e x)
unfolding copy_or
copy-within n e Unknown h = h
copy-within n e (Value v) h = tt
copy-within n e ZeroDivisor h = h

expr-within : (k : Knowledge) (n : ℕ) (e : Expr) → IsExprWithin n e → IsExprWithin n (folded_expr k e)
unfolding folded_expr
expr-within k n e h = copy-within n (folded_operands k e) (evaluated (folded_operands k e)) (operands_within (folded_operand k) n n (operand-within k n) e h)

-- ---- moves, conds and guards

map-at : {X : Type 0} (f : X → X) (xs : List X) (i : ℕ) (d : X) → i < length xs → get_or (map f xs) i d ≡ f (get_or xs i d)
map-at f [] i d h = absurd (omega arith)
map-at f (x ∷ xs) zero d h = refl
map-at f (x ∷ xs) (suc i) d h = map-at f xs i d (omega arith)

pairs-fine : (k : Knowledge) (n : ℕ) (pairs : List Pair) → ArePairsFine n pairs → ArePairsFine n (map (folded_pair k) pairs)
unfolding folded_pair
pairs-fine k n pairs fine = record {
  dests = All-map (λ (p : Pair). p.dest.0 < n) (folded_pair k) pairs fine.dests;
  differ = λ i j d lt h.
      let len = length-map pairs (folded_pair k) in
      let here : j < length pairs = omega arith in
      let before : i < length pairs = omega arith in
      let first = ap (λ (p : Pair). p.dest) (map-at (folded_pair k) pairs i d before) in
      let second = ap (λ (p : Pair). p.dest) (map-at (folded_pair k) pairs j d here) in
      λ e. fine.differ i j d lt here (sym first ∙ e ∙ second);
  operands = All-map (λ (p : Pair). IsOperandWithin n p.value) (folded_pair k) pairs
      (All-weaker (λ (p : Pair). IsOperandWithin n p.value) (λ (p : Pair). IsOperandWithin n (folded_operand k p.value))
      (λ p h. operand-within k n p.value h) pairs fine.operands);
}

cond-fine : (P : Program) (n labels : ℕ) (test : Operand) (known : Option ℤ) (a b : Label) → IsVInstrFine P n labels (Cond test a b) →
    IsVInstrFine P n labels (folded_cond test known a b)
unfolding folded_cond
cond-fine P n labels test None a b fine = fine
cond-fine P n labels test (Some v) a b fine = branch_in (λ (l : Label). l.0 < labels) v a b fine.1 fine.2

abbrev AreGuardsFine : ℕ → List Guard → Type 0
AreGuardsFine n guards = (length guards ≤ 8) × All (IsGuardWithin n) guards

guards-fine : (k : Knowledge) (n : ℕ) (guards : List Guard) → AreGuardsFine n guards → AreGuardsFine n (folded_guards k guards)
unfolding folded_guards
guards-fine k n guards fine = ⊎_elim
    (λ yes_. subst (AreGuardsFine n) (sym (cond-true (list_any (is_false k) guards) (Never ∷ []) (filter (is_open k) guards) yes_))
    (omega arith, All-cons (IsGuardWithin n) Never [] tt (All-nil (IsGuardWithin n))))
    (λ no_. subst (AreGuardsFine n) (sym (cond-false (list_any (is_false k) guards) (Never ∷ []) (filter (is_open k) guards) no_))
    (omega (arith, fine.0, length-filter (is_open k) guards, count_by-le-length (is_open k) guards), All-filter (is_open k) (IsGuardWithin n) guards fine.1))
    (cases_Bool (list_any (is_false k) guards))

-- ---- instructions and facts

instr-fine : (P : Program) (k : Knowledge) (n labels : ℕ) (instr : VInstr) → IsVInstrFine P n labels instr → IsVInstrFine P n labels (folded_instr k instr)
unfolding folded_instr
instr-fine P k n labels (Nop next) fine = fine
instr-fine P k n labels (Op dest e next) fine = (fine.0, expr-within k n e fine.1, fine.2)
instr-fine P k n labels (Move pairs next) fine = (pairs-fine k n pairs fine.0, fine.1)
instr-fine P k n labels (Cond test a b) fine = cond-fine P n labels test (known_value k test) a b fine
instr-fine P k n labels (Call dest f args next) fine = (
  fine.0,
  subst (Takes P.functions f) (sym (length-map args (folded_operand k))) fine.1,
  All-map (IsOperandWithin n) (folded_operand k) args
      (All-weaker (IsOperandWithin n) (λ (o : Operand). IsOperandWithin n (folded_operand k o)) (λ o h. operand-within k n o h) args fine.2),
  fine.3,
)
instr-fine P k n labels (Return v) fine = operand-within k n v fine
instr-fine P k n labels (Print v next) fine = (operand-within k n v fine.0, fine.1)
instr-fine P k n labels (Load dest a next) fine = (fine.0, operand-within k n a fine.1, fine.2)
instr-fine P k n labels (Store a v next) fine = (operand-within k n a fine.0, operand-within k n v fine.1, fine.2)
instr-fine P k n labels (Fail f l) fine = fine
instr-fine P k n labels (Assume guards b t next) fine =
    let g = guards-fine k n guards (fine.0, fine.1) in
    (g.0, g.1, fine.2, fine.3, fine.4)
instr-fine P k n labels (Anchor b t next) fine = fine

pub by-fine : (P : Program) (n labels : ℕ) (facts : Facts) (instr : VInstr) → IsVInstrFine P n labels instr → IsVInstrFine P n labels (folded_by facts instr)
unfolding folded_by
by-fine P n labels Unreached instr fine = fine
by-fine P n labels (Known facts) instr fine = instr-fine P (told_by facts) n labels instr fine

together_of-fine : (n : ℕ) (k k' : Knowledge) → HasFineFacts n (together_of n k k')
unfolding together_of
together_of-fine n k k' = ⊎_elim
    (λ yes_. subst (HasFineFacts n) (sym (cond-true (clash k k' n) Unreached (Known (facts_below (both k k') n)) yes_)) tt)
    (λ no_. subst (HasFineFacts n) (sym (cond-false (clash k k' n) Unreached (Known (facts_below (both k k') n)) no_)) (below-fine (both k k') n))
    (cases_Bool (clash k k' n))

pub together-fine : (n : ℕ) (old facts : Facts) → HasFineFacts n (together n old facts)
unfolding together
together-fine n Unreached facts = tt
together-fine n (Known old) Unreached = tt
together-fine n (Known old) (Known facts) = together_of-fine n (told_by old) (told_by facts)
