-- Where the row of a fresh Assume directly after an Anchor is within 8, every row is, after it is inserted.
use Rattle.std.proofs.Common.{◌≡◌, ◌≢◌, ℕ, zero, suc, ◌+◌, ◌≤◌, ◌⊎◌, Option, Some, None, refl, sym, ◌∙◌, subst, inl, inr, ⊎_elim, arith}
use Rattle.std.proofs.lemmas.Option.{same_Some, none-some, slice_get_within}
use Rattle.cj_ir.specs.declared.language.Label.{Label}
use Rattle.cj_ir.proofs.Labels.{label_cases}
use Rattle.cj_draft.specs.declared.code.Code.{Code}
use Rattle.cj_draft.specs.Sound.{RowWithin}
use Rattle.cj_rows.specs.Rows.{guard_at, guards_after, guards_before, fresh_row}
use Rattle.cj_rows.proofs.GuardRows.{after_some}
use Rattle.cj_rows.proofs.RowLemmas.{has_guard, no_row, one_row, row_next, row_ends, row_within, exact_row, Leads, no_cycle, leads_before}

-- where the guards are the same, so are the rows
pub row_same : (code code' : Code) → ((x : Label) → guard_at code' x ≡ guard_at code x) → (n : ℕ) (x : Label) → RowWithin code n x → RowWithin code' n x
row_same code code' same zero x row = by_guard (guard_at code x) refl
  where
    by_guard : (o : Option Label) → guard_at code x ≡ o → RowWithin code' zero x
    by_guard None e = no_row code' zero x (same x ∙ e)
    by_guard (Some next) e = absurd (row_ends code x next e row)
row_same code code' same (suc n) x row = by_guard (λ y r. row_same code code' same n y r) (guard_at code x) refl
  where
    by_guard : ((y : Label) → RowWithin code n y → RowWithin code' n y) → (o : Option Label) → guard_at code x ≡ o → RowWithin code' (suc n) x
    by_guard ih None e = no_row code' (suc n) x (same x ∙ e)
    by_guard ih (Some next) e = one_row code' n x next (same x ∙ e) (ih next (row_next code n x next e row))

-- The guards of the new code: that at a goes on to s, which goes on where a did. The others are as they were.
pub record HasGuardsAfter (code code' : Code) (a s next : Label) : Type 0 where
  pub old : (x : Label) → x ≢ a → x ≢ s → guard_at code' x ≡ guard_at code x
  pub anchor : guard_at code' a ≡ Some s
  pub fresh : guard_at code' s ≡ Some next
  pub was : guard_at code a ≡ Some next
  -- no edge goes to s, and a is another label
  pub edges : (x y : Label) → guard_at code x ≡ Some y → y ≢ s
  pub apart : a ≢ s

module _ (code code' : Code) (a s next : Label) (g : HasGuardsAfter code code' a s next) (rows : (x : Label) → RowWithin code 8 x) where
  -- as many follow the Anchor
  m : ℕ
  m = guards_after code 7 next

  -- a row that does not come to a is as it was
  row_apart : (n : ℕ) (x : Label) → x ≢ s → ((k : ℕ) → Leads code a k x → ⊥) → RowWithin code n x → RowWithin code' n x
  row_apart zero x ne never row = by_guard (guard_at code x) refl
    where
      by_guard : (o : Option Label) → guard_at code x ≡ o → RowWithin code' zero x
      by_guard None e = no_row code' zero x (g.old x (never 0) ne ∙ e)
      by_guard (Some y) e = absurd (row_ends code x y e row)
  row_apart (suc n) x ne never row = by_guard (λ y d w r. row_apart n y d w r) (guard_at code x) refl
    where
      by_guard : ((y : Label) → y ≢ s → ((k : ℕ) → Leads code a k y → ⊥) → RowWithin code n y → RowWithin code' n y) → (o : Option Label) →
          guard_at code x ≡ o → RowWithin code' (suc n) x
      by_guard ih None e = no_row code' (suc n) x (g.old x (never 0) ne ∙ e)
      by_guard ih (Some y) e =
          one_row code' n x y (g.old x (never 0) ne ∙ e)
          (ih y (g.edges x y e) (λ k leads. never (suc k) (y, e, leads)) (row_next code n x y e row))

  row_was : RowWithin code (suc m) a
  unfolding m
  row_was = subst (λ k. RowWithin code k a) (after_some code 7 a next g.was) (exact_row code 8 a (rows a))

  row_of_next : RowWithin code' m next
  row_of_next = row_apart m next (g.edges a next g.was) (λ k leads. no_cycle code a k 8 (next, g.was, leads) (rows a)) (row_next code m a next g.was row_was)

  row_of_s : RowWithin code' (suc m) s
  row_of_s = one_row code' m s next g.fresh row_of_next

  row_to_a : (k : ℕ) (x : Label) → x ≢ s → Leads code a k x → RowWithin code' (k + suc (suc m)) x
  row_to_a zero x ne leads =
      let e : suc (suc m) ≡ zero + suc (suc m) = omega arith in
      subst (λ j. RowWithin code' j x) e (subst (RowWithin code' (suc (suc m))) (sym leads) (one_row code' (suc m) a s g.anchor row_of_s))
  row_to_a (suc k) x ne leads =
      let y = leads.0 in
      let other : x ≢ a = λ is. no_cycle code a k 8 (subst (Leads code a (suc k)) is leads) (rows a) in
      let e : suc (k + suc (suc m)) ≡ suc k + suc (suc m) = omega arith in
      subst (λ j. RowWithin code' j x) e
      (one_row code' (k + suc (suc m)) x y (g.old x other ne ∙ leads.1) (row_to_a k y (g.edges x y leads.1) leads.2))

  leads_not : (x : Label) → x ≢ a → guard_at code x ≡ None → (k : ℕ) → Leads code a k x → ⊥
  leads_not x ne e zero leads = ne leads
  leads_not x ne e (suc k) leads = none-some leads.0 (sym e ∙ leads.1)

  leads_never : (x y : Label) → x ≢ a → guard_at code x ≡ Some y → ((k : ℕ) → Leads code a k y → ⊥) → (k : ℕ) → Leads code a k x → ⊥
  leads_never x y ne e never zero leads = ne leads
  leads_never x y ne e never (suc k) leads = never k (subst (Leads code a k) (same_Some leads.0 y (sym leads.1 ∙ e)) leads.2)

  -- a label leads to a, or never does
  leads_or : (n : ℕ) (x : Label) → RowWithin code n x → ((k : ℕ) × Leads code a k x) ⊎ ((k : ℕ) → Leads code a k x → ⊥)
  leads_or zero x row = ⊎_elim (λ e. inl (0, e)) (λ ne. by_guard ne (guard_at code x) refl) (label_cases x a)
    where
      by_guard : x ≢ a → (o : Option Label) → guard_at code x ≡ o → ((k : ℕ) × Leads code a k x) ⊎ ((k : ℕ) → Leads code a k x → ⊥)
      by_guard ne None e = inr (leads_not x ne e)
      by_guard ne (Some y) e = absurd (row_ends code x y e row)
  leads_or (suc n) x row = ⊎_elim (λ e. inl (0, e)) (λ ne. by_guard (λ y r. leads_or n y r) ne (guard_at code x) refl) (label_cases x a)
    where
      by_guard : ((y : Label) → RowWithin code n y → ((k : ℕ) × Leads code a k y) ⊎ ((k : ℕ) → Leads code a k y → ⊥)) → x ≢ a → (o : Option Label) →
          guard_at code x ≡ o → ((k : ℕ) × Leads code a k x) ⊎ ((k : ℕ) → Leads code a k x → ⊥)
      by_guard ih ne None e = inr (leads_not x ne e)
      by_guard ih ne (Some y) e = ⊎_elim
          (λ h. inl (suc h.0, (y, e, h.1)))
          (λ never. inr (leads_never x y ne e never))
          (ih y (row_next code n x y e row))

  counted : (k : ℕ) (x : Label) → Leads code a k x → k ≤ guards_before code a
  counted zero x leads = omega arith
  counted (suc k) x leads =
      let h = has_guard code x leads.0 leads.1 in
      leads_before code a rows (suc k) x (slice_get_within code.places x.0 h.place h.at) leads

  pub rows_after : fresh_row code a ≤ 8 → (x : Label) → RowWithin code' 8 x
  unfolding fresh_row m
  rows_after short x =
      let is : guards_after code 8 a ≡ suc m = after_some code 7 a next g.was in
      let all : guards_before code a + 1 + guards_after code 8 a ≤ 8 = short in
      ⊎_elim
      (λ e. row_within code' (suc m) 8 x (omega arith) (subst (RowWithin code' (suc m)) (sym e) row_of_s))
      (λ ne. ⊎_elim
      (λ h.
      let lead : h.0 ≤ guards_before code a = counted h.0 x h.1 in
      row_within code' (h.0 + suc (suc m)) 8 x (omega arith) (row_to_a h.0 x ne h.1))
      (λ never. row_apart 8 x ne never (rows x))
      (leads_or 8 x (rows x)))
      (label_cases x s)
