-- The formats of single words, operands, expressions and guards.
use Rattle.std.proofs.Common.{◌≡◌, ℕ, ◌<◌, ◌^◌, List, [], ◌∷◌, ◌++◌, refl, sym, ap, ◌∙◌, subst, arith}
use Rattle.std.specs.Prelude.{ℤ, Some}
use Rattle.std.specs.Int.{cast_signed, cast_unsigned, w64}
use Rattle.std.proofs.lemmas.Int.{ints, to_z-of_z, of_z-to_z}
use Rattle.cj_ir.specs.Values.{value_word, IsOperandWithin, IsExprWithin}
use Rattle.cj_ir.specs.declared.language.FunId.{FunId}
use Rattle.cj_ir.specs.declared.language.Label.{Label}
use Rattle.cj_ir.specs.declared.language.Reg.{Reg}
use Rattle.cj_ir.specs.declared.language.Operand.{Operand}
use Rattle.cj_ir.specs.declared.language.Operand.TheVariants as operand
use Rattle.cj_ir.specs.declared.language.Expr.{Expr}
use Rattle.cj_ir.specs.declared.language.Expr.TheVariants.{Copy, Neg, Eqz, Add, Sub, Mul, Div, Rem, Eq, Lt}
use Rattle.cj_ir.specs.declared.language.Guard.{Guard}
use Rattle.cj_ir.specs.declared.language.Guard.TheVariants.{Is, Never}
use Rattle.cj_draft.specs.WellNamed.{IsGuardWithin}
use Rattle.cj_codec.specs.declared.reader.Limits.{Limits}
use Rattle.cj_spelling.specs.Spelling.{operand_words, two_operands, expr_words, guard_words}
use Rattle.cj_spelling.specs.Values.{IsValue, HasOperandValue, HasExprValues, HasGuardValue}
use Rattle.cj_spelling.specs.Formats.{made, below_at}
use Rattle.cj_codec.specs.Reading.{function_of, label_of, reg_of, function_at, label_at, base_label_at, reg_at, base_reg_at, value_at, operand_by, operand_at}
use Rattle.cj_codec.specs.Reading.{operands_at, one_operand, two_operands_at, expr_by, expr_at, guard_by, guard_at}
use Rattle.cj_spelling.proofs.Formats.{IsFormat, made_format, made_from, below_format, two_reads, two_spells, kind_from, by_kind, nothing_read, kinded}
use Rattle.cj_spelling.proofs.Formats.{first_same, rest_same}

-- ---- single words

abbrev pub function_words : FunId → List ℕ
function_words f = f.0 ∷ []

abbrev pub label_words : Label → List ℕ
label_words label = label.0 ∷ []

abbrev pub reg_words : Reg → List ℕ
reg_words reg = reg.0 ∷ []

abbrev pub value_words : ℤ → List ℕ
value_words value = value_word value ∷ []

pub function_format : IsFormat (λ f. f.0 < 64) function_words function_at
unfolding function_at
function_format = made_format function_of (λ (f : FunId). f.0) (λ n. refl) (λ f. refl) (below_format 64)

pub label_format : (limits : Limits) → IsFormat (λ label. label.0 < limits.labels) label_words (label_at limits)
unfolding label_at
label_format limits = made_format label_of (λ (l : Label). l.0) (λ n. refl) (λ l. refl) (below_format limits.labels)

pub base_label_format : IsFormat (λ label. label.0 < 256) label_words base_label_at
unfolding base_label_at
base_label_format = made_format label_of (λ (l : Label). l.0) (λ n. refl) (λ l. refl) (below_format 256)

pub reg_format : (limits : Limits) → IsFormat (λ reg. reg.0 < limits.regs) reg_words (reg_at limits)
unfolding reg_at
reg_format limits = made_format reg_of (λ (r : Reg). r.0) (λ n. refl) (λ r. refl) (below_format limits.regs)

pub base_reg_format : IsFormat (λ reg. reg.0 < 32) reg_words base_reg_at
unfolding base_reg_at
base_reg_format = made_format reg_of (λ (r : Reg). r.0) (λ n. refl) (λ r. refl) (below_format 32)

value_low : (z : ℤ) → IsValue z → value_word z < 2 ^ 64
value_low z h = omega (arith, ints)

value_fits : (n : ℕ) → n < 2 ^ 64 → IsValue (cast_signed w64 n)
value_fits n h = search (arith, ints)

pub value_format : IsFormat IsValue value_words value_at
unfolding value_at
value_format = record {
  reads = λ z rest fits. rw ((below_format (2 ^ 64)).reads (value_word z) rest (value_low z fits), to_z-of_z w64 z fits) refl;
  spells = λ ws z rest e.
      let m = made_from (cast_signed w64) (below_at (2 ^ 64) ws) z rest e in
      let s = (below_format (2 ^ 64)).spells ws m.from rest m.read in
      let back : m.from ≡ value_word z = sym (of_z-to_z w64 m.from s.0) ∙ ap (cast_unsigned w64) m.is in
      (subst IsValue m.is (value_fits m.from s.0), s.1 ∙ ap (λ (n : ℕ). n ∷ rest) back);
}

-- ---- operands

abbrev pub InOperand : Limits → Operand → Type 0
InOperand limits a = IsOperandWithin limits.regs a × HasOperandValue a

operand_reads : (limits : Limits) (a : Operand) (rest : List ℕ) → InOperand limits a → operand_at limits (operand_words a ++ rest) ≡ Some (a, rest)
unfolding operand_at
operand_reads limits (operand.Reg r) rest h = ap (made operand.Reg) ((reg_format limits).reads r rest h.0)
operand_reads limits (operand.Const c) rest h = ap (made operand.Const) (value_format.reads c rest h.1)

operand_spells : (limits : Limits) (ws : List ℕ) (a : Operand) (rest : List ℕ) → operand_at limits ws ≡ Some (a, rest) →
    InOperand limits a × (ws ≡ operand_words a ++ rest)
unfolding operand_at
operand_spells limits ws a rest e =
    let k = kind_from (operand_by limits) ws a rest e in
    let reg : k.kind ≡ 0 → made operand.Reg (reg_at limits k.more) ≡ Some (a, rest) → InOperand limits a × (ws ≡ operand_words a ++ rest) = λ is h.
    let m = made_from operand.Reg (reg_at limits k.more) a rest h in
    let s = (reg_format limits).spells k.more m.from rest m.read in
    kinded (InOperand limits) operand_words 0 ws k.kind k.more a rest (operand.Reg m.from) (reg_words m.from) k.is is m.is (s.0, tt) s.1 refl in
    let value : k.kind ≡ 1 → made operand.Const (value_at k.more) ≡ Some (a, rest) → InOperand limits a × (ws ≡ operand_words a ++ rest) = λ is h.
    let m = made_from operand.Const (value_at k.more) a rest h in
    let s = value_format.spells k.more m.from rest m.read in
    kinded (InOperand limits) operand_words 1 ws k.kind k.more a rest (operand.Const m.from) (value_words m.from) k.is is m.is (tt, s.0) s.1 refl in
    by_kind k.kind 0 _ _ (a, rest) reg (by_kind k.kind 1 _ _ (a, rest) value (λ h. nothing_read (a, rest) h)) k.then

pub operand_format : (limits : Limits) → IsFormat (InOperand limits) operand_words (operand_at limits)
operand_format limits = record { reads = operand_reads limits; spells = operand_spells limits }

abbrev pub InBoth : Limits → Operand × Operand → Type 0
InBoth limits both = InOperand limits both.0 × InOperand limits both.1

abbrev pub both_words : Operand × Operand → List ℕ
both_words both = two_operands both.0 both.1

both_of : Operand → Operand → Operand × Operand
both_of a b = (a, b)

pub operands_format : (limits : Limits) → IsFormat (InBoth limits) both_words (operands_at limits)
unfolding operands_at both_of
operands_format limits = record {
  reads = λ both rest h. two_reads both_of (operand_format limits) (operand_format limits) both.0 both.1 rest h.0 h.1;
  spells = λ ws both rest e.
      let h = two_spells both_of (operand_format limits) (operand_format limits) ws both rest e in
      subst (λ (x : Operand × Operand). InBoth limits x × (ws ≡ both_words x ++ rest)) h.is ((h.in_a, h.in_b), h.spelled);
}

-- ---- expressions

abbrev pub InExpr : Limits → Expr → Type 0
InExpr limits expr = IsExprWithin limits.regs expr × HasExprValues expr

abbrev SpellsExpr : Limits → List ℕ → Expr → List ℕ → Type 0
SpellsExpr limits ws expr rest = InExpr limits expr × (ws ≡ expr_words expr ++ rest)

one_reads : (f : Operand → Expr) (limits : Limits) (a : Operand) (rest : List ℕ) → InOperand limits a →
    one_operand f limits (operand_words a ++ rest) ≡ Some (f a, rest)
one_reads f limits a rest h = ap (made f) ((operand_format limits).reads a rest h)

both_reads : (f : Operand → Operand → Expr) (limits : Limits) (a b : Operand) (rest : List ℕ) → InOperand limits a → InOperand limits b →
    two_operands_at f limits (two_operands a b ++ rest) ≡ Some (f a b, rest)
both_reads f limits a b rest ia ib = ap (made (λ (both : Operand × Operand). f both.0 both.1)) ((operands_format limits).reads (a, b) rest (ia, ib))

expr_reads : (limits : Limits) (expr : Expr) (rest : List ℕ) → InExpr limits expr → expr_at limits (expr_words expr ++ rest) ≡ Some (expr, rest)
unfolding expr_at
expr_reads limits (Copy a) rest h = one_reads Copy limits a rest h
expr_reads limits (Neg a) rest h = one_reads Neg limits a rest h
expr_reads limits (Eqz a) rest h = one_reads Eqz limits a rest h
expr_reads limits (Add a b) rest h = both_reads Add limits a b rest (h.0.0, h.1.0) (h.0.1, h.1.1)
expr_reads limits (Sub a b) rest h = both_reads Sub limits a b rest (h.0.0, h.1.0) (h.0.1, h.1.1)
expr_reads limits (Mul a b) rest h = both_reads Mul limits a b rest (h.0.0, h.1.0) (h.0.1, h.1.1)
expr_reads limits (Div a b) rest h = both_reads Div limits a b rest (h.0.0, h.1.0) (h.0.1, h.1.1)
expr_reads limits (Rem a b) rest h = both_reads Rem limits a b rest (h.0.0, h.1.0) (h.0.1, h.1.1)
expr_reads limits (Eq a b) rest h = both_reads Eq limits a b rest (h.0.0, h.1.0) (h.0.1, h.1.1)
expr_reads limits (Lt a b) rest h = both_reads Lt limits a b rest (h.0.0, h.1.0) (h.0.1, h.1.1)

one_spells : (f : Operand → Expr) (n : ℕ) → ((limits : Limits) (a : Operand) → InOperand limits a → InExpr limits (f a)) →
    ((a : Operand) → expr_words (f a) ≡ n ∷ operand_words a) → (limits : Limits) (ws : List ℕ) (kind : ℕ) (more : List ℕ) (expr : Expr) (rest : List ℕ) →
    ws ≡ kind ∷ more → kind ≡ n → one_operand f limits more ≡ Some (expr, rest) → SpellsExpr limits ws expr rest
one_spells f n ranges begins limits ws kind more expr rest front is e =
    let m = made_from f (operand_at limits more) expr rest e in
    let s = (operand_format limits).spells more m.from rest m.read in
    kinded (InExpr limits) expr_words n ws kind more expr rest (f m.from) (operand_words m.from) front is m.is (ranges limits m.from s.0) s.1 (begins m.from)

both_spells : (f : Operand → Operand → Expr) (n : ℕ) → ((limits : Limits) (a b : Operand) → InOperand limits a → InOperand limits b → InExpr limits (f a b)) →
    ((a b : Operand) → expr_words (f a b) ≡ n ∷ two_operands a b) → (limits : Limits) (ws : List ℕ) (kind : ℕ) (more : List ℕ) (expr : Expr) (rest : List ℕ) →
    ws ≡ kind ∷ more → kind ≡ n → two_operands_at f limits more ≡ Some (expr, rest) → SpellsExpr limits ws expr rest
both_spells f n ranges begins limits ws kind more expr rest front is e =
    let m = made_from (λ (both : Operand × Operand). f both.0 both.1) (operands_at limits more) expr rest e in
    let s = (operands_format limits).spells more m.from rest m.read in
    kinded (InExpr limits) expr_words n ws kind more expr rest (f m.from.0 m.from.1) (both_words m.from) front is m.is
    (ranges limits m.from.0 m.from.1 s.0.0 s.0.1) s.1 (begins m.from.0 m.from.1)

expr_spells : (limits : Limits) (ws : List ℕ) (expr : Expr) (rest : List ℕ) → expr_at limits ws ≡ Some (expr, rest) → SpellsExpr limits ws expr rest
unfolding expr_at
expr_spells limits ws expr rest e =
    let k = kind_from (expr_by limits) ws expr rest e in
    by_kind k.kind 0 _ _ (expr, rest) (one_spells Copy 0 (λ l a h. h) (λ a. refl) limits ws k.kind k.more expr rest k.is)
    (by_kind k.kind 1 _ _ (expr, rest) (one_spells Neg 1 (λ l a h. h) (λ a. refl) limits ws k.kind k.more expr rest k.is)
    (by_kind k.kind 2 _ _ (expr, rest) (one_spells Eqz 2 (λ l a h. h) (λ a. refl) limits ws k.kind k.more expr rest k.is)
    (by_kind k.kind 3 _ _ (expr, rest) (both_spells Add 3 (λ l a b x y. ((x.0, y.0), (x.1, y.1))) (λ a b. refl) limits ws k.kind k.more expr rest k.is)
    (by_kind k.kind 4 _ _ (expr, rest) (both_spells Sub 4 (λ l a b x y. ((x.0, y.0), (x.1, y.1))) (λ a b. refl) limits ws k.kind k.more expr rest k.is)
    (by_kind k.kind 5 _ _ (expr, rest) (both_spells Mul 5 (λ l a b x y. ((x.0, y.0), (x.1, y.1))) (λ a b. refl) limits ws k.kind k.more expr rest k.is)
    (by_kind k.kind 6 _ _ (expr, rest) (both_spells Div 6 (λ l a b x y. ((x.0, y.0), (x.1, y.1))) (λ a b. refl) limits ws k.kind k.more expr rest k.is)
    (by_kind k.kind 7 _ _ (expr, rest) (both_spells Rem 7 (λ l a b x y. ((x.0, y.0), (x.1, y.1))) (λ a b. refl) limits ws k.kind k.more expr rest k.is)
    (by_kind k.kind 8 _ _ (expr, rest) (both_spells Eq 8 (λ l a b x y. ((x.0, y.0), (x.1, y.1))) (λ a b. refl) limits ws k.kind k.more expr rest k.is)
    (by_kind k.kind 9 _ _ (expr, rest) (both_spells Lt 9 (λ l a b x y. ((x.0, y.0), (x.1, y.1))) (λ a b. refl) limits ws k.kind k.more expr rest k.is)
    (λ h. nothing_read (expr, rest) h)))))))))) k.then

pub expr_format : (limits : Limits) → IsFormat (InExpr limits) expr_words (expr_at limits)
expr_format limits = record { reads = expr_reads limits; spells = expr_spells limits }

-- ---- guards

abbrev pub InGuard : Limits → Guard → Type 0
InGuard limits guard = IsGuardWithin limits.regs guard × HasGuardValue guard

abbrev SpellsGuard : Limits → List ℕ → Guard → List ℕ → Type 0
SpellsGuard limits ws guard rest = InGuard limits guard × (ws ≡ guard_words guard ++ rest)

guard_reads : (limits : Limits) (guard : Guard) (rest : List ℕ) → InGuard limits guard → guard_at limits (guard_words guard ++ rest) ≡ Some (guard, rest)
unfolding guard_at
guard_reads limits Never rest h = refl
guard_reads limits (Is reg value) rest h = two_reads Is (reg_format limits) value_format reg value rest h.0 h.1

guard_spells : (limits : Limits) (ws : List ℕ) (guard : Guard) (rest : List ℕ) → guard_at limits ws ≡ Some (guard, rest) → SpellsGuard limits ws guard rest
unfolding guard_at
guard_spells limits ws guard rest e =
    let k = kind_from (guard_by limits) ws guard rest e in
    let never : k.kind ≡ 0 → Some (Never, k.more) ≡ Some (guard, rest) → SpellsGuard limits ws guard rest = λ is h.
    kinded (InGuard limits) guard_words 0 ws k.kind k.more guard rest Never [] k.is is (first_same Never guard k.more rest h) (tt, tt)
    (rest_same Never guard k.more rest h) refl in
    by_kind k.kind 0 _ _ (guard, rest) never
    (by_kind k.kind 1 _ _ (guard, rest) (λ is h.
    let m = two_spells Is (reg_format limits) value_format k.more guard rest h in
    kinded (InGuard limits) guard_words 1 ws k.kind k.more guard rest (Is m.a m.b) (reg_words m.a ++ value_words m.b) k.is is m.is
    (m.in_a, m.in_b) m.spelled refl)
    (λ h. nothing_read (guard, rest) h)) k.then

pub guard_format : (limits : Limits) → IsFormat (InGuard limits) guard_words (guard_at limits)
guard_format limits = record { reads = guard_reads limits; spells = guard_spells limits }
