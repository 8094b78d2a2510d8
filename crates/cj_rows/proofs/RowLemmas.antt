-- Rows by the guards at labels, and the labels that lead to one.
use Rattle.std.proofs.Common.{◌≡◌, ◌≢◌, ℕ, zero, suc, ◌+◌, ◌-◌, ◌<◌, ◌≤◌, length, Option, Some, None, refl, sym, ap, ◌∙◌, subst, arith}
use Rattle.std.proofs.lemmas.Option.{same_Some, none-some}
use Rattle.std.proofs.lemmas.Bool.{eq-eqb, ne_eqb}
use Rattle.cj_ir.specs.declared.language.Label.{Label}
use Rattle.cj_ir.proofs.Labels.{same_label}
use Rattle.cj_draft.specs.declared.code.Place.{Place}
use Rattle.cj_draft.specs.declared.code.Code.{Code}
use Rattle.cj_draft.specs.Arrives.{place_at}
use Rattle.cj_draft.specs.Sound.{guard_next, RowWithin}
use Rattle.cj_rows.specs.Rows.{guard_in, guard_at, guards_after, one_step, steps_to, or_none, guards_before}
use Rattle.cj_rows.proofs.GuardRows.{after_some, steps_here, steps_some, greatest_above}

-- ---- rows by the guards at labels

pub guard_place : (code : Code) (x : Label) (p : Place) → place_at code x ≡ Some p → guard_at code x ≡ guard_next p.instr
unfolding guard_at guard_in
guard_place code x p at = ap guard_in at

-- the place of a guard
pub record HasGuard (code : Code) (x next : Label) : Type 0 where
  pub place : Place
  pub at : place_at code x ≡ Some place
  pub guard : guard_next place.instr ≡ Some next

pub has_guard : (code : Code) (x next : Label) → guard_at code x ≡ Some next → HasGuard code x next
unfolding guard_at guard_in
has_guard code x next e = by_place (place_at code x) refl e
  where
    by_place : (o : Option Place) → place_at code x ≡ o → guard_in o ≡ Some next → HasGuard code x next
    by_place None at e = absurd (none-some next e)
    by_place (Some p) at e = record { place = p; at = at; guard = e }

pub no_row : (code : Code) (n : ℕ) (x : Label) → guard_at code x ≡ None → RowWithin code n x
no_row code zero x e = λ p at. sym (guard_place code x p at) ∙ e
no_row code (suc n) x e = λ p next at g. absurd (none-some next (sym (sym (guard_place code x p at) ∙ e) ∙ g))

pub one_row : (code : Code) (n : ℕ) (x next : Label) → guard_at code x ≡ Some next → RowWithin code n next → RowWithin code (suc n) x
one_row code n x next e row = λ p y at g. subst (RowWithin code n) (same_Some next y (sym e ∙ guard_place code x p at ∙ g)) row

pub row_next : (code : Code) (n : ℕ) (x next : Label) → guard_at code x ≡ Some next → RowWithin code (suc n) x → RowWithin code n next
row_next code n x next e row = let h = has_guard code x next e in row h.place next h.at h.guard

pub row_ends : (code : Code) (x next : Label) → guard_at code x ≡ Some next → RowWithin code 0 x → ⊥
row_ends code x next e row = let h = has_guard code x next e in none-some next (sym (row h.place h.at) ∙ h.guard)

-- a row within n labels is within more
pub row_more : (code : Code) (n : ℕ) (x : Label) → RowWithin code n x → RowWithin code (suc n) x
row_more code zero x row = λ p next at g. absurd (none-some next (sym (row p at) ∙ g))
row_more code (suc n) x row = λ p next at g. row_more code n next (row p next at g)

pub row_wider : (code : Code) (d n : ℕ) (x : Label) → RowWithin code n x → RowWithin code (d + n) x
row_wider code zero n x row = let e : n ≡ 0 + n = omega arith in subst (λ k. RowWithin code k x) e row
row_wider code (suc d) n x row =
    let e : suc (d + n) ≡ suc d + n = omega arith in
    subst (λ k. RowWithin code k x) e (row_more code (d + n) x (row_wider code d n x row))

pub row_within : (code : Code) (n k : ℕ) (x : Label) → n ≤ k → RowWithin code n x → RowWithin code k x
row_within code n k x h row = let e : (k - n) + n ≡ k = omega arith in subst (λ j. RowWithin code j x) e (row_wider code (k - n) n x row)

-- a row is as long as it is counted
pub exact_row : (code : Code) (n : ℕ) (x : Label) → RowWithin code n x → RowWithin code (guards_after code n x) x
exact_row code zero x row = by_guard (guard_at code x) refl
  where
    by_guard : (o : Option Label) → guard_at code x ≡ o → RowWithin code (guards_after code zero x) x
    by_guard None e = no_row code (guards_after code zero x) x e
    by_guard (Some next) e = absurd (row_ends code x next e row)
exact_row code (suc n) x row = by_guard (λ y r. exact_row code n y r) (guard_at code x) refl
  where
    by_guard : ((y : Label) → RowWithin code n y → RowWithin code (guards_after code n y) y) → (o : Option Label) → guard_at code x ≡ o →
        RowWithin code (guards_after code (suc n) x) x
    by_guard ih None e = no_row code (guards_after code (suc n) x) x e
    by_guard ih (Some next) e =
        subst (λ k. RowWithin code k x) (sym (after_some code n x next e))
        (one_row code (guards_after code n next) x next e (ih next (row_next code n x next e row)))

-- ---- labels that lead to one

abbrev pub Leads : Code → Label → ℕ → Label → Type 0
Leads code l zero x = x ≡ l
Leads code l (suc k) x = (next : Label) × (guard_at code x ≡ Some next) × Leads code l k next

pub leads_row : (code : Code) (l : Label) (k n : ℕ) (x : Label) → Leads code l k x → RowWithin code n x → (k ≤ n) × RowWithin code (n - k) l
leads_row code l zero n x e row = (omega arith, let same : n ≡ n - 0 = omega arith in subst (λ j. RowWithin code j l) same (subst (RowWithin code n) e row))
leads_row code l (suc k) zero x h row = absurd (row_ends code x h.0 h.1 row)
leads_row code l (suc k) (suc n) x h row =
    let ih = leads_row code l k n h.0 h.2 (row_next code n x h.0 h.1 row) in
    let less : k ≤ n = ih.0 in
    let same : n - k ≡ suc n - suc k = omega arith in
    (omega arith, subst (λ j. RowWithin code j l) same ih.1)

-- no label of a row leads to itself
pub no_cycle : (code : Code) (l : Label) (k n : ℕ) → Leads code l (suc k) l → RowWithin code n l → ⊥
no_cycle code l k n leads row = again (suc n) n (omega arith) row
  where
    again : (fuel m : ℕ) → m < fuel → RowWithin code m l → ⊥
    again zero m h r = omega arith
    again (suc fuel) m h r =
        let shorter = leads_row code l (suc k) m l leads r in
        let le : suc k ≤ m = shorter.0 in
        again fuel (m - suc k) (omega arith) shorter.1

pub leads_steps : (code : Code) (l : Label) (k n : ℕ) (x : Label) → RowWithin code 8 l → k ≤ n → Leads code l k x → steps_to code l n x ≡ Some k
unfolding one_step
leads_steps code l zero n x row h e = steps_here code l n x (eq-eqb x.0 l.0 (ap (λ (y : Label). y.0) e))
leads_steps code l (suc k) zero x row h leads = absurd (omega arith)
leads_steps code l (suc k) (suc n) x row h leads =
    let differs : x.0 ≢ l.0 = λ e. no_cycle code l k 8 (subst (Leads code l (suc k)) (same_label x l e) leads) row in
    steps_some code l n x leads.0 (ne_eqb x.0 l.0 differs) leads.1 ∙ ap one_step (leads_steps code l k n leads.0 row (omega arith) leads.2)

-- what leads to a label is counted
pub leads_before : (code : Code) (l : Label) → ((x : Label) → RowWithin code 8 x) → (k : ℕ) (x : Label) → x.0 < length code.places → Leads code l k x →
    k ≤ guards_before code l
unfolding guards_before or_none
leads_before code l rows k x within leads =
    let few : k ≤ 8 = (leads_row code l k 8 x leads (rows x)).0 in
    let is : or_none (steps_to code l 8 x) ≡ k = ap or_none (leads_steps code l k 8 x (rows l) few leads) in
    let above : or_none (steps_to code l 8 x)
    ≤ guards_before code l = greatest_above (λ (from : Label). or_none (steps_to code l 8 from)) (length code.places) x within in
    omega arith
