-- Marks that are counted.
use Rattle.std.proofs.Common.{◌≡◌, ℕ, zero, suc, ◌+◌, ◌<◌, Bool, true, false, cond, List, [], ◌∷◌, length, replicate, Some, refl, sym, ap, ◌∙◌, arith}
use Rattle.std.proofs.Common.{length-set}
use Rattle.std.specs.Prelude.{slice_get, slice_set, count_by}
use Rattle.std.proofs.lemmas.List.Sums.{sum_by-cons, count_by-le-length}
use Rattle.std.proofs.lemmas.Option.{same_Some, none-some}

abbrev pub count_marks : List Bool → ℕ
count_marks marks = count_by (λ mark. mark) marks

pub count-true : (marks : List Bool) → count_marks (true ∷ marks) ≡ count_marks marks + 1
count-true marks = let h : count_marks (true ∷ marks) ≡ 1 + count_marks marks = sum_by-cons (λ (k : Bool). cond k 1 0) true marks in omega arith

pub count-false : (marks : List Bool) → count_marks (false ∷ marks) ≡ count_marks marks
count-false marks = let h : count_marks (false ∷ marks) ≡ 0 + count_marks marks = sum_by-cons (λ (k : Bool). cond k 1 0) false marks in omega arith

pub count-none : (n : ℕ) → count_marks (replicate n false) ≡ 0
count-none zero = refl
count-none (suc n) = count-false (replicate n false) ∙ count-none n

pub count-set : (marks : List Bool) (i : ℕ) → slice_get marks i ≡ Some false → count_marks (slice_set marks i true) ≡ count_marks marks + 1
count-set [] i e = absurd (none-some false e)
count-set (true ∷ marks) zero e = let f : true ≡ false = same_Some true false e in absurd (cc)
count-set (false ∷ marks) zero e = count-true marks ∙ ap (λ n. n + 1) (sym (count-false marks))
count-set (true ∷ marks) (suc i) e = count-true (slice_set marks i true) ∙ ap (λ n. n + 1) (count-set marks i e ∙ sym (count-true marks))
count-set (false ∷ marks) (suc i) e = count-false (slice_set marks i true) ∙ count-set marks i e ∙ ap (λ n. n + 1) (sym (count-false marks))

pub count-unset : (marks : List Bool) (i : ℕ) → slice_get marks i ≡ Some true → count_marks (slice_set marks i false) + 1 ≡ count_marks marks
count-unset [] i e = absurd (none-some true e)
count-unset (false ∷ marks) zero e = let f : false ≡ true = same_Some false true e in absurd (cc)
count-unset (true ∷ marks) zero e = ap (λ n. n + 1) (count-false marks) ∙ sym (count-true marks)
count-unset (true ∷ marks) (suc i) e = ap (λ n. n + 1) (count-true (slice_set marks i false) ∙ count-unset marks i e) ∙ sym (count-true marks)
count-unset (false ∷ marks) (suc i) e = ap (λ n. n + 1) (count-false (slice_set marks i false)) ∙ count-unset marks i e ∙ sym (count-false marks)

-- where one is not marked, fewer are marked than there are
pub count-below : (marks : List Bool) (i : ℕ) → slice_get marks i ≡ Some false → count_marks marks < length marks
count-below marks i e =
    let most = count_by-le-length (λ (k : Bool). k) (slice_set marks i true) in
    omega (arith, count-set marks i e, length-set marks i true, most)

-- where none is marked, no mark is read
pub no_mark : (n k : ℕ) → slice_get (replicate n false) k ≡ Some true → ⊥
no_mark zero k e = none-some true e
no_mark (suc n) zero e = let f : false ≡ true = same_Some false true e in cc
no_mark (suc n) (suc k) e = no_mark n k e
