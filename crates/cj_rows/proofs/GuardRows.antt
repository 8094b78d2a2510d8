-- Rows of Assumes and Anchors, as they are counted.
use Rattle.std.proofs.Common.{◌≡◌, ℕ, zero, suc, ◌+◌, ◌-◌, ◌<◌, ◌≤◌, Bool, true, false, nat_eq, max, Option, Some, None, refl, sym, ap, ap₂, ◌∙◌, subst, ⊎_elim}
use Rattle.std.proofs.Common.{arith}
use Rattle.std.specs.Prelude.{unwrap_or}
use Rattle.std.proofs.lemmas.Bool.{cases_eq}
use Rattle.cj_ir.specs.declared.language.Label.{Label}
use Rattle.cj_draft.specs.declared.code.Code.{Code}
use Rattle.cj_rows.specs.Rows.{guard_at, one_more, guards_after, one_step, step_on, here_or, steps_to, or_none, greatest}

-- ---- one after the other

pub after_none : (code : Code) (n : ℕ) (x : Label) → guard_at code x ≡ None → guards_after code n x ≡ 0
unfolding guards_after one_more
after_none code zero x e = refl
after_none code (suc n) x e = ap (λ o. one_more o (λ y. guards_after code n y)) e

pub after_some : (code : Code) (n : ℕ) (x next : Label) → guard_at code x ≡ Some next → guards_after code (suc n) x ≡ suc (guards_after code n next)
unfolding guards_after one_more
after_some code n x next e = ap (λ o. one_more o (λ y. guards_after code n y)) e

pub after_few : (code : Code) (n : ℕ) (x : Label) → guards_after code n x ≤ n
unfolding guards_after one_more
after_few code zero x = omega arith
after_few code (suc n) x = by_guard (λ y. after_few code n y) (guard_at code x)
  where
    by_guard : ((y : Label) → guards_after code n y ≤ n) → (o : Option Label) → one_more o (λ y. guards_after code n y) ≤ suc n
    by_guard ih None = omega arith
    by_guard ih (Some next) = let h : guards_after code n next ≤ n = ih next in omega arith

-- so many steps more
unfoldable pub further : ℕ → Option ℕ → Option ℕ
further count None = None
further count (Some steps) = Some (count + steps)

pub further_none : (count : ℕ) (o : Option ℕ) → o ≡ None → further count o ≡ None
unfolding further
further_none count o e = ap (further count) e

pub further_some : (count n : ℕ) (o : Option ℕ) → o ≡ Some n → further count o ≡ Some (count + n)
unfolding further
further_some count n o e = ap (further count) e

further_step : (count : ℕ) (o : Option ℕ) → further count (one_step o) ≡ further (count + 1) o
unfolding further one_step
further_step count None = refl
further_step count (Some n) = ap Some (omega arith)

pub steps_here : (code : Code) (label : Label) (n : ℕ) (x : Label) → nat_eq x.0 label.0 ≡ true → steps_to code label n x ≡ Some 0
unfolding steps_to here_or
steps_here code label zero x e = ap (λ b. here_or b None) e
steps_here code label (suc n) x e = ap (λ b. here_or b (step_on (guard_at code x) (λ y. steps_to code label n y))) e

pub steps_end : (code : Code) (label : Label) (x : Label) → nat_eq x.0 label.0 ≡ false → steps_to code label 0 x ≡ None
unfolding steps_to here_or
steps_end code label x e = ap (λ b. here_or b None) e

pub steps_none : (code : Code) (label : Label) (n : ℕ) (x : Label) → nat_eq x.0 label.0 ≡ false → guard_at code x ≡ None → steps_to code label n x ≡ None
unfolding steps_to here_or step_on
steps_none code label zero x e g = ap (λ b. here_or b None) e
steps_none code label (suc n) x e g = ap (λ b. here_or b (step_on (guard_at code x) (λ y. steps_to code label n y))) e
    ∙ ap (λ o. step_on o (λ y. steps_to code label n y)) g

pub steps_some : (code : Code) (label : Label) (n : ℕ) (x next : Label) → nat_eq x.0 label.0 ≡ false → guard_at code x ≡ Some next →
    steps_to code label (suc n) x ≡ one_step (steps_to code label n next)
unfolding steps_to here_or step_on
steps_some code label n x next e g = ap (λ b. here_or b (step_on (guard_at code x) (λ y. steps_to code label n y))) e
    ∙ ap (λ o. step_on o (λ y. steps_to code label n y)) g

-- ---- in the loops

pub after_step : (code : Code) (i all : ℕ) (x next : Label) → i < 8 → guard_at code x ≡ Some next → i + guards_after code (8 - i) x ≡ all →
    (i + 1) + guards_after code (8 - (i + 1)) next ≡ all
after_step code i all x next lt e so_far =
    let s : 8 - i ≡ suc (8 - (i + 1)) = omega arith in
    let h : guards_after code (8 - i) x ≡ suc (guards_after code (8 - (i + 1)) next) = ap (λ n. guards_after code n x) s
    ∙ after_some code (8 - (i + 1)) x next e in
    omega arith

pub steps_step : (code : Code) (label : Label) (i : ℕ) (all : Option ℕ) (x next : Label) → i < 8 → nat_eq x.0 label.0 ≡ false → guard_at code x ≡ Some next →
    further i (steps_to code label (8 - i) x) ≡ all → further (i + 1) (steps_to code label (8 - (i + 1)) next) ≡ all
steps_step code label i all x next lt e g so_far =
    let s : 8 - i ≡ suc (8 - (i + 1)) = omega arith in
    sym (ap (λ n. further i (steps_to code label n x)) s ∙ ap (further i) (steps_some code label (8 - (i + 1)) x next e g)
    ∙ further_step i (steps_to code label (8 - (i + 1)) next)) ∙ so_far

pub steps_few : (code : Code) (label : Label) (n : ℕ) (x : Label) → or_none (steps_to code label n x) ≤ n
unfolding or_none steps_to here_or step_on one_step
steps_few code label zero x = by_test (nat_eq x.0 label.0)
  where
    by_test : (b : Bool) → or_none (here_or b None) ≤ 0
    by_test true = omega arith
    by_test false = omega arith
steps_few code label (suc n) x = by_test (λ y. steps_few code label n y) (nat_eq x.0 label.0) (guard_at code x)
  where
    by_steps : (o : Option ℕ) → or_none o ≤ n → or_none (one_step o) ≤ suc n
    by_steps None h = omega arith
    by_steps (Some k) h = omega arith

    by_test : ((y : Label) → or_none (steps_to code label n y) ≤ n) → (b : Bool) (o : Option Label) →
        or_none (here_or b (step_on o (λ y. steps_to code label n y))) ≤ suc n
    by_test ih true o = omega arith
    by_test ih false None = omega arith
    by_test ih false (Some next) = by_steps (steps_to code label n next) (ih next)

pub further_same : (o : Option ℕ) → further 0 o ≡ o
unfolding further
further_same None = refl
further_same (Some n) = ap Some (omega arith)

-- ---- the greatest

pub greatest_more : (f : Label → ℕ) (n most steps new : ℕ) (x : Label) → most ≡ greatest f n → x.0 ≡ n → steps ≡ f x → new ≡ max most steps →
    new ≡ greatest f (n + 1)
unfolding greatest
greatest_more f n most steps new x m e s is =
    let one : n + 1 ≡ suc n = omega arith in
    let same : x ≡ label n = ap label e in
    is ∙ ap₂ max m (s ∙ ap f same) ∙ sym (ap (greatest f) one)
  where
    label : ℕ → Label
    label k = record { 0 = k }

pub greatest_above : (f : Label → ℕ) (n : ℕ) (x : Label) → x.0 < n → f x ≤ greatest f n
unfolding greatest
greatest_above f zero x h = absurd (omega arith)
greatest_above f (suc n) x h = ⊎_elim
    (λ e. subst (λ y. f y ≤ max (greatest f n) (f (label n))) (sym (ap label e)) (omega arith))
    (λ ne. let less : x.0 < n = omega arith in let ih : f x ≤ greatest f n = greatest_above f n x less in omega arith)
    (cases_eq x.0 n)
  where
    label : ℕ → Label
    label k = record { 0 = k }

pub or_none-unwrap : (o : Option ℕ) → unwrap_or o 0 ≡ or_none o
unfolding or_none
or_none-unwrap None = refl
or_none-unwrap (Some n) = refl
