-- Where the row of a fresh Assume or Anchor before a label is within 8, every row is, after it is inserted.
use Rattle.std.proofs.Common.{◌≡◌, ◌≢◌, ℕ, zero, suc, ◌+◌, ◌<◌, ◌≤◌, ◌⊎◌, length, Option, Some, None, refl, sym, ap, ◌∙◌, subst, inl, inr, ⊎_elim, arith}
use Rattle.std.specs.Option.{option_map}
use Rattle.std.proofs.lemmas.Option.{same_Some, none-some}
use Rattle.cj_ir.specs.declared.language.Label.{Label}
use Rattle.cj_ir.proofs.Labels.{label_cases}
use Rattle.cj_draft.specs.declared.code.Place.{Place}
use Rattle.cj_draft.specs.declared.code.Code.{Code}
use Rattle.cj_draft.specs.Arrives.{place_at}
use Rattle.cj_draft.specs.Sound.{guard_next, RowWithin}
use Rattle.cj_draft.proofs.Rows.{RowPasses}
use Rattle.cj_rows.specs.Rows.{guard_at, guards_after, guards_before, fresh_row}
use Rattle.cj_rows.proofs.RowLemmas.{guard_place, no_row, one_row, row_next, row_ends, row_within, exact_row, Leads, no_cycle, leads_before}

-- the guards of the new code: those of the old one, with edges to l led to a, and that at a, which goes on to l
pub record HasGuardsOf (code code' : Code) (l a : Label) (r : Label → Label) : Type 0 where
  pub old : (x : Label) → x ≢ a → guard_at code' x ≡ option_map r (guard_at code x)
  pub fresh : guard_at code' a ≡ Some l
  pub none : guard_at code a ≡ None
  pub to_l : r l ≡ a
  pub others : (x : Label) → x ≢ l → r x ≡ x
  -- no edge goes to a, and l is another label
  pub edges : (x next : Label) → guard_at code x ≡ Some next → next ≢ a
  pub apart : l ≢ a

record WasGuard (code : Code) (r : Label → Label) (x next' : Label) : Type 0 where
  next : Label
  is : guard_at code x ≡ Some next
  same : r next ≡ next'

module _ (code code' : Code) (l a : Label) (r : Label → Label) (g : HasGuardsOf code code' l a r) (rows : (x : Label) → RowWithin code 8 x) where
  m : ℕ
  m = guards_after code 8 l

  was_guard : (x next' : Label) → x ≢ a → guard_at code' x ≡ Some next' → WasGuard code r x next'
  was_guard x next' ne e = by_guard (guard_at code x) refl (sym (g.old x ne) ∙ e)
    where
      by_guard : (o : Option Label) → guard_at code x ≡ o → option_map r o ≡ Some next' → WasGuard code r x next'
      by_guard None is e = absurd (none-some next' e)
      by_guard (Some next) is e = record { next = next; is = is; same = same_Some (r next) next' e }

  -- a row that does not come to l is as it was
  row_apart : (n : ℕ) (x : Label) → x ≢ a → ((k : ℕ) → Leads code l (suc k) x → ⊥) → RowWithin code n x → RowWithin code' n x
  row_apart zero x ne never row = by_guard (guard_at code x) refl
    where
      by_guard : (o : Option Label) → guard_at code x ≡ o → RowWithin code' zero x
      by_guard None e = no_row code' zero x (g.old x ne ∙ ap (option_map r) e)
      by_guard (Some next) e = absurd (row_ends code x next e row)
  row_apart (suc n) x ne never row = by_guard (λ y d w s. row_apart n y d w s) (guard_at code x) refl
    where
      by_guard : ((y : Label) → y ≢ a → ((k : ℕ) → Leads code l (suc k) y → ⊥) → RowWithin code n y → RowWithin code' n y) → (o : Option Label) →
          guard_at code x ≡ o → RowWithin code' (suc n) x
      by_guard ih None e = no_row code' (suc n) x (g.old x ne ∙ ap (option_map r) e)
      by_guard ih (Some next) e =
          let other : next ≢ l = λ is. never 0 (next, e, is) in
          one_row code' n x next (g.old x ne ∙ ap (option_map r) e ∙ ap Some (g.others next other))
          (ih next (g.edges x next e) (λ k leads. never (suc k) (next, e, leads)) (row_next code n x next e row))

  row_of_l : RowWithin code' m l
  unfolding m
  row_of_l = row_apart (guards_after code 8 l) l g.apart (λ k leads. no_cycle code l k 8 leads (rows l)) (exact_row code 8 l (rows l))

  row_of_a : RowWithin code' (suc m) a
  row_of_a = one_row code' m a l g.fresh row_of_l

  row_to_l : (k : ℕ) (x : Label) → x ≢ a → Leads code l (suc k) x → RowWithin code' (suc k + suc m) x
  row_to_l zero x ne leads =
      let is = g.old x ne ∙ ap (option_map r) leads.1 ∙ ap (λ y. Some (r y)) leads.2 ∙ ap Some g.to_l in
      let e : suc (suc m) ≡ suc zero + suc m = omega arith in
      subst (λ j. RowWithin code' j x) e (one_row code' (suc m) x a is row_of_a)
  row_to_l (suc k) x ne leads =
      let next = leads.0 in
      let other : next ≢ l = λ is. no_cycle code l k 8 (subst (Leads code l (suc k)) is leads.2) (rows l) in
      let is = g.old x ne ∙ ap (option_map r) leads.1 ∙ ap Some (g.others next other) in
      let e : suc (suc k + suc m) ≡ suc (suc k) + suc m = omega arith in
      subst (λ j. RowWithin code' j x) e (one_row code' (suc k + suc m) x next is (row_to_l k next (g.edges x next leads.1) leads.2))

  -- what passes a is a, or led to l
  passes_from : (n : ℕ) (x : Label) → RowPasses code' n x a → (x ≡ a) ⊎ ((k : ℕ) × Leads code l (suc k) x)
  passes_from zero x e = inl e
  passes_from (suc n) x h = ⊎_elim (λ e. inl e)
      (λ p. ⊎_elim (λ e. inl e) (λ ne. inr (from (λ y q. passes_from n y q) ne p.0 p.1 p.2 p.3 p.4)) (label_cases x a)) h
    where
      from : ((y : Label) → RowPasses code' n y a → (y ≡ a) ⊎ ((k : ℕ) × Leads code l (suc k) y)) → x ≢ a → (p : Place) (next' : Label) →
          place_at code' x ≡ Some p → guard_next p.instr ≡ Some next' → RowPasses code' n next' a → (k : ℕ) × Leads code l (suc k) x
      from ih ne p next' at gn rest =
          let w = was_guard x next' ne (guard_place code' x p at ∙ gn) in
          ⊎_elim
          (λ is. (0, (w.next, w.is, is)))
          (λ other.
          let same : w.next ≡ next' = sym (g.others w.next other) ∙ w.same in
          ⊎_elim
          (λ e. absurd (g.edges x w.next w.is (same ∙ e)))
          (λ more. (suc more.0, (w.next, w.is, subst (Leads code l (suc more.0)) (sym same) more.1)))
          (ih next' rest))
          (label_cases w.next l)

  pub rows_through : ((x next : Label) → guard_at code x ≡ Some next → x.0 < length code.places) → fresh_row code l ≤ 8 → (x : Label) → RowPasses code' 8 x a →
      RowWithin code' 8 x
  unfolding fresh_row m
  rows_through within short x passes =
      let all : guards_before code l + 1 + m ≤ 8 = short in
      ⊎_elim
      (λ e. row_within code' (suc m) 8 x (omega arith) (subst (RowWithin code' (suc m)) (sym e) row_of_a))
      (λ h.
      let lead : suc h.0 ≤ guards_before code l = leads_before code l rows (suc h.0) x (within x h.1.0 h.1.1) h.1 in
      let ne : x ≢ a = λ e. none-some h.1.0 (sym g.none ∙ ap (guard_at code) (sym e) ∙ h.1.1) in
      row_within code' (suc h.0 + suc m) 8 x (omega arith) (row_to_l h.0 x ne h.1))
      (passes_from 8 x passes)
