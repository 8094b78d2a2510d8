-- Rows, what they know, and what facts tell of registers.
use Rattle.std.proofs.Common.{◌≡◌, ◌≢◌, ℕ, zero, suc, ◌+◌, ◌<◌, ◌≤◌, ◌==◌, true, List, [], ◌∷◌, ◌++◌, length, drop, get_or, Option, Some, None, refl, sym, ap}
use Rattle.std.proofs.Common.{◌∙◌, ⊎_elim, arith, add-one, drop-cons, length-append}
use Rattle.std.specs.Prelude.{ℤ, ◌&&◌, All, slice_set, slice_index_or, if◌then◌else◌}
use Rattle.std.proofs.Math.Path.{fun_ext}
use Rattle.std.proofs.lemmas.Option.{none-some}
use Rattle.std.proofs.lemmas.Bool.{cases_eq, cases_lt, eq-eqb, ne_eqb, and_parts, cond-true, cond-false}
use Rattle.std.proofs.Math.ListN.{get_or-append}
use Rattle.std.proofs.Math.Seq.{get_or-append_seam}
use Rattle.std.proofs.lemmas.List.{drop_all, get_or-set_same, get_or-set_other, get_or_past}
use Rattle.std.proofs.lemmas.List.Elements.{All-head, All-tail}
use Rattle.cj_ir.specs.Values.{IsOperandWithin, IsExprWithin}
use Rattle.cj_ir.specs.declared.language.Operand.{Operand}
use Rattle.cj_ir.specs.declared.language.Operand.TheVariants as operand
use Rattle.cj_ir.specs.declared.language.Expr.{Expr}
use Rattle.cj_ir.specs.declared.language.Expr.TheVariants.{Copy, Neg, Eqz, Add, Sub, Mul, Div, Rem, Eq, Lt}
use Rattle.cj_draft.specs.declared.facts.Fact.{Fact}
use Rattle.cj_const.specs.Knowledge.{Knowledge, told_by, with_known, is_constant, are_constants, known, row_below}

-- ---- facts read in order

pub drop-at : {X : Type 0} (xs : List X) (i : ℕ) (d : X) → i < length xs → drop i xs ≡ get_or xs i d ∷ drop (i + 1) xs
drop-at xs i d h = rw (add-one, drop-cons xs i d)

pub told-first : (x : Fact) (facts : List Fact) (r : ℕ) → x.reg.0 ≡ r → told_by (x ∷ facts) r ≡ Some x.value
unfolding told_by
told-first x facts r e = cond-true (x.reg.0 == r) (Some x.value) (told_by facts r) (eq-eqb x.reg.0 r e)

pub told-rest : (x : Fact) (facts : List Fact) (r : ℕ) → x.reg.0 ≢ r → told_by (x ∷ facts) r ≡ told_by facts r
unfolding told_by
told-rest x facts r e = cond-false (x.reg.0 == r) (Some x.value) (told_by facts r) (ne_eqb x.reg.0 r e)

pub told-here : (facts : List Fact) (i : ℕ) (d : Fact) (r : ℕ) → i < length facts → (get_or facts i d).reg.0 ≡ r → told_by (drop i facts) r ≡ told_by facts r →
    told_by facts r ≡ Some (get_or facts i d).value
told-here facts i d r h e same =
    sym same ∙ ap (λ (xs : List Fact). told_by xs r) (drop-at facts i d h) ∙ told-first (get_or facts i d) (drop (i + 1) facts) r e

pub told-past : (facts : List Fact) (i : ℕ) (d : Fact) (r : ℕ) → i < length facts → (get_or facts i d).reg.0 ≢ r → told_by (drop i facts) r ≡ told_by facts r →
    told_by (drop (i + 1) facts) r ≡ told_by facts r
told-past facts i d r h e same =
    sym (told-rest (get_or facts i d) (drop (i + 1) facts) r e) ∙ sym (ap (λ (xs : List Fact). told_by xs r) (drop-at facts i d h)) ∙ same

pub told-none : (facts : List Fact) (i r : ℕ) → length facts ≤ i → told_by (drop i facts) r ≡ told_by facts r → told_by facts r ≡ None
unfolding told_by
told-none facts i r h same = sym same ∙ ap (λ (xs : List Fact). told_by xs r) (drop_all i facts h)

-- ---- a value that is known is of a register of the row

pub known-inside : (row : List (Option ℤ)) (r : ℕ) (v : ℤ) → known row r ≡ Some v → r < length row
unfolding known
known-inside row r v e = ⊎_elim
    (λ below. below)
    (λ past. absurd (none-some v (sym (get_or_past row r None past) ∙ e)))
    (cases_lt r (length row))

-- ---- writes

pub known-set : (row : List (Option ℤ)) (dest : ℕ) (now : Option ℤ) → dest < length row → known (slice_set row dest now) ≡ with_known (known row) dest now
unfolding known with_known
known-set row dest now h = fun_ext at
  where
    at : (r : ℕ) → slice_index_or (slice_set row dest now) r None ≡ (if r == dest then now else slice_index_or row r None)
    at r = ⊎_elim
        (λ e. ap (λ (k : ℕ). slice_index_or (slice_set row dest now) k None) e ∙ get_or-set_same row dest now None h
        ∙ sym (cond-true (r == dest) now (slice_index_or row r None) (eq-eqb r dest e)))
        (λ n. get_or-set_other row dest r now None n ∙ sym (cond-false (r == dest) now (slice_index_or row r None) (ne_eqb r dest n)))
        (cases_eq r dest)

-- ---- the row of some knowledge

pub length-row_below : (k : Knowledge) (n : ℕ) → length (row_below k n) ≡ n
unfolding row_below
length-row_below k zero = refl
length-row_below k (suc n) = let ih = length-row_below k n in omega (arith, length-append (row_below k n) (k n ∷ []))

-- below n the row knows the same
pub known-below : (k : Knowledge) (n r : ℕ) → r < n → slice_index_or (row_below k n) r None ≡ k r
unfolding row_below
known-below k zero r h = absurd (omega arith)
known-below k (suc n) r h = ⊎_elim
    (λ e. ap (λ j. slice_index_or (row_below k n ++ k n ∷ []) j None) (e ∙ sym (length-row_below k n)) ∙ get_or-append_seam (row_below k n) (k n) [] None
    ∙ ap k (sym e))
    (λ ne. get_or-append (row_below k n) (k n ∷ []) None r (omega (arith, length-row_below k n)) ∙ known-below k n r (omega arith))
    (cases_eq r n)

told-no_register : (facts : List Fact) (n r : ℕ) → All (λ fact. fact.reg.0 < n) facts → n ≤ r → told_by facts r ≡ None
unfolding told_by
told-no_register [] n r within h = refl
told-no_register (x ∷ facts) n r within h =
    let low = All-head (λ (fact : Fact). fact.reg.0 < n) x facts within in
    told-rest x facts r (omega arith) ∙ told-no_register facts n r (All-tail (λ (fact : Fact). fact.reg.0 < n) x facts within) h

-- the row of facts of its registers knows what they tell
pub known-row_below : (facts : List Fact) (n : ℕ) → All (λ fact. fact.reg.0 < n) facts → known (row_below (told_by facts) n) ≡ told_by facts
unfolding known
known-row_below facts n within = fun_ext at
  where
    at : (r : ℕ) → slice_index_or (row_below (told_by facts) n) r None ≡ told_by facts r
    at r = ⊎_elim
        (λ below. known-below (told_by facts) n r below)
        (λ above. get_or_past (row_below (told_by facts) n) r None (omega (arith, length-row_below (told_by facts) n))
        ∙ sym (told-no_register facts n r within above))
        (cases_lt r n)

-- ---- constants

operand_within : (n : ℕ) (o : Operand) → is_constant o ≡ true → IsOperandWithin n o
unfolding is_constant
operand_within n (operand.Reg r) e = absurd (cc)
operand_within n (operand.Const c) e = tt

one_within : (n : ℕ) (a : Operand) → is_constant a && true ≡ true → IsOperandWithin n a
one_within n a e = operand_within n a (and_parts (is_constant a) true e).0

two_within : (n : ℕ) (a b : Operand) → is_constant a && (is_constant b && true) ≡ true → IsOperandWithin n a × IsOperandWithin n b
two_within n a b e =
    let h = and_parts (is_constant a) (is_constant b && true) e in
    (operand_within n a h.0, one_within n b h.1)

pub constants_within : (n : ℕ) (e : Expr) → are_constants e ≡ true → IsExprWithin n e
unfolding are_constants
constants_within n (Copy a) e = one_within n a e
constants_within n (Neg a) e = one_within n a e
constants_within n (Eqz a) e = one_within n a e
constants_within n (Add a b) e = two_within n a b e
constants_within n (Sub a b) e = two_within n a b e
constants_within n (Mul a b) e = two_within n a b e
constants_within n (Div a b) e = two_within n a b e
constants_within n (Rem a b) e = two_within n a b e
constants_within n (Eq a b) e = two_within n a b e
constants_within n (Lt a b) e = two_within n a b e

-- the row that is written, where its write is known
pub known_after : (row made : List (Option ℤ)) (dest : ℕ) (now : Option ℤ) → made ≡ slice_set row dest now → dest < length row →
    known made ≡ with_known (known row) dest now
known_after row made dest now e h = ap known e ∙ known-set row dest now h
