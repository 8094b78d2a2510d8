-- A register's value that arrives at a label.
use Rattle.std.proofs.Common.{◌≡◌, ℕ, ◌+◌, ◌<◌, Bool, true, false, cond, List, [], ◌∷◌, ◌++◌, length, Option, Some, None, refl, sym, ap, ◌∙◌, subst, inl, inr}
use Rattle.std.proofs.Common.{⊎_elim, arith, length-set, get_or}
use Rattle.std.specs.Prelude.{ℤ, Contains, count_by, slice_set, slice_index_or}
use Rattle.std.specs.Option.{option_map}
use Rattle.std.proofs.lemmas.Option.{none-some, same_Some}
use Rattle.std.proofs.lemmas.Bool.{cases_eq}
use Rattle.std.proofs.lemmas.List.Sums.{sum_by-set}
use Rattle.std.proofs.lemmas.List.Elements.{All-contains, All-get_or, Contains-append_right}
use Rattle.cj_ir.specs.declared.language.Label.{Label}
use Rattle.cj_ir.specs.declared.language.Reg.{Reg}
use Rattle.cj_ir.proofs.Members.{contains-head, all-from_contains}
use Rattle.cj_draft.specs.declared.facts.Fact.{Fact}
use Rattle.cj_draft.specs.declared.facts.Facts.{Facts}
use Rattle.cj_draft.specs.declared.facts.Facts.TheVariants.{Unreached, Known}
use Rattle.cj_draft.specs.declared.code.Code.{Code}
use Rattle.cj_const.specs.Knowledge.{Knowledge, known}
use Rattle.cj_const.specs.Flow.{facts_at, IsWithin}
use Rattle.cj_const.specs.Search.{HasWidth, reached_at, agrees, is_known, rank}
use Rattle.cj_const.proofs.Meeting.{slot-agrees, same-agrees}
use Rattle.cj_const.proofs.Rows.{known-set, known-inside}
use Rattle.cj_const.proofs.Monotone.{at-written, at-other}
use Rattle.cj_const.proofs.SearchSteps.{reached-same}
use Rattle.cj_sparse.specs.declared.search.Work.{Work}
use Rattle.cj_sparse.specs.declared.search.Work.TheVariants.{Lost}
use Rattle.cj_sparse.specs.Losses.{SameOrLost, IsBegun, LowersAt, Lowers, GoesOn, IsAbove, slot_at, slot_in, forgotten, HasMet, AreMet}
use Rattle.cj_sparse.proofs.Lowering.{goes-self, row-written, still-reached}

abbrev Row : Type 0
Row = List (Option ℤ)

abbrev Rows : Type 0
Rows = List (Option Row)

-- ---- slots

pub differ-known : (s other : Option ℤ) → agrees s other ≡ false → (v : ℤ) × (s ≡ Some v)
unfolding agrees
differ-known None other no_ = absurd (cc)
differ-known (Some v) other no_ = (v, refl)

-- ---- a row in which a register is forgotten

abbrev one_if : Bool → ℕ
one_if b = cond b 1 0

forgotten-fewer : (row : Row) (r : ℕ) (v : ℤ) → known row r ≡ Some v → count_by is_known (slice_set row r None) < count_by is_known row
unfolding known is_known
forgotten-fewer row r v e =
    let inside = known-inside row r v e in
    let one : one_if (is_known (get_or row r None)) ≡ 1 = ap (λ (z : Option ℤ). one_if (is_known z)) e in
    let sum : count_by is_known (slice_set row r None) + one_if (is_known (get_or row r None))
    ≡ count_by is_known row + 0 = sum_by-set (λ (z : Option ℤ). one_if (is_known z)) row r None None inside in
    omega (arith, one, sum)

forgotten-same : (work : List Work) (label : Label) (row : Row) (reg : Reg) → reg.0 < length row → Contains work (Lost label reg) →
    SameOrLost work label (known row) (known (slice_set row reg.0 None))
forgotten-same work label row reg inside waits = λ r. ⊎_elim
    (λ same. inr (
      subst (λ (x : ℕ). Contains work (Lost label (record { 0 = x }))) (sym same) waits,
      ap (λ (k : Knowledge). k r) (known-set row reg.0 None inside) ∙ at-written (known row) reg.0 r None same,
    ))
    (λ other. inl (ap (λ (k : Knowledge). k r) (known-set row reg.0 None inside) ∙ at-other (known row) reg.0 r None other))
    (cases_eq r reg.0)

forgotten-within : (facts : Facts) (row : Row) (a : Knowledge) (r : ℕ) → r < length row → agrees (known row r) (a r) ≡ false →
    IsWithin facts (Some (known row)) → IsWithin facts (Some a) → IsWithin facts (Some (known (slice_set row r None)))
forgotten-within Unreached row a r inside no_ h h' = absurd h
forgotten-within (Known facts) row a r inside no_ h h' =
    all-from_contains (λ (x : Fact). known (slice_set row r None) x.reg.0 ≡ Some x.value) facts (λ x c.
    let mine : known row x.reg.0 ≡ Some x.value = All-contains (λ (y : Fact). known row y.reg.0 ≡ Some y.value) facts x h c in
    let others : a x.reg.0 ≡ Some x.value = All-contains (λ (y : Fact). a y.reg.0 ≡ Some y.value) facts x h' c in
    ⊎_elim
    (λ same. absurd (true-false (sym (same-agrees (known row r) (a r) x.value (ap (known row) (sym same) ∙ mine) (ap a (sym same) ∙ others)) ∙ no_)))
    (λ other. ap (λ (k : Knowledge). k x.reg.0) (known-set row r None inside) ∙ at-other (known row) r x.reg.0 None other ∙ mine)
    (cases_eq x.reg.0 r))
  where
    true-false : true ≡ false → ⊥
    true-false e = cc

-- ---- what has met

module _ (context : List Fact) (code : Code) (rows rows' : Rows) (work work' : List Work) (to : Label) (reg : Reg) (other : Option ℤ)
    (begun : IsBegun context code rows work) (within : to.0 < length code.places)
    (a : Knowledge) (above : IsAbove context code to a) (is : a reg.0 ≡ other) where
  inside : to.0 < length rows
  inside = omega (arith, within, begun.found.count)

  lost-goes : (o : Option Row) → slice_index_or rows to.0 None ≡ o → agrees (slot_in o reg.0) other ≡ false →
      GoesOn context code rows work (slice_set rows to.0 (forgotten reg.0 o)) (work ++ Lost to reg ∷ [])
  unfolding slot_in agrees forgotten rank
  lost-goes None e no_ = absurd (cc)
  lost-goes (Some row) e no_ =
      let told = differ-known (known row reg.0) other no_ in
      let in-row : reg.0 < length row = known-inside row reg.0 told.0 told.1 in
      let wide : length row ≡ code.regs = subst (HasWidth code.regs) e (All-get_or (HasWidth code.regs) rows to.0 None inside begun.found.widths) in
      let there : reached_at rows to ≡ Some (known row) = ap (option_map known) e in
      let fewer = forgotten-fewer row reg.0 told.0 told.1 in
      let before : rank code.regs (slice_index_or rows to.0 None) ≡ count_by is_known row = ap (rank code.regs) e in
      let waits : Contains (work ++ Lost to reg ∷ []) (Lost to reg) = Contains-append_right work (Lost to reg ∷ []) (Lost to reg)
      (contains-head (Lost to reg) []) in
      row-written context code rows work begun to within (slice_set row reg.0 None) (Lost to reg) (length-set row reg.0 None ∙ wide)
      (λ table consistent.
      forgotten-within (facts_at table to) row a reg.0 in-row (ap (agrees (known row reg.0)) is ∙ no_)
      (subst (IsWithin (facts_at table to)) there (begun.found.above table consistent to)) (above table consistent))
      (subst (λ o. LowersAt (work ++ Lost to reg ∷ []) to o (Some (known (slice_set row reg.0 None)))) (sym there)
      (known (slice_set row reg.0 None), refl, forgotten-same (work ++ Lost to reg ∷ []) to row reg in-row waits))
      (record {
        label = within;
        lost = (
          known (slice_set row reg.0 None),
          reached-same rows to (slice_set row reg.0 None) inside,
          ap (λ (k : Knowledge). k reg.0) (known-set row reg.0 None in-row) ∙ at-written (known row) reg.0 reg.0 None refl,
        );
      })
      (omega arith)

  pub met-goes : HasMet rows work to reg other rows' work' → GoesOn context code rows work rows' work'
  unfolding slot_at
  met-goes met = ⊎_elim
      (λ lost. subst (λ (r : Rows). GoesOn context code rows work r work') (sym lost.1)
      (subst (GoesOn context code rows work (slice_set rows to.0 (forgotten reg.0 (slice_index_or rows to.0 None)))) (sym lost.2)
      (lost-goes (slice_index_or rows to.0 None) refl lost.0)))
      (λ kept. subst (λ (r : Rows). GoesOn context code rows work r work') (sym kept.1)
      (subst (GoesOn context code rows work rows) (sym kept.2) (goes-self context code rows work begun)))
      met

-- what is known then of the register has arrived
pub met-told : (rows rows' : Rows) (work work' : List Work) (to : Label) (reg : Reg) (other : Option ℤ) (k : Knowledge) → to.0 < length rows →
    HasMet rows work to reg other rows' work' → reached_at rows' to ≡ Some k → (v : ℤ) → k reg.0 ≡ Some v → other ≡ Some v
unfolding slot_at slot_in agrees forgotten
met-told rows rows' work work' to reg other k inside met here v e = ⊎_elim
    (λ lost. by_lost (slice_index_or rows to.0 None) refl lost.0 lost.1)
    (λ kept. by_kept (slice_index_or rows to.0 None) refl kept.0 kept.1)
    met
  where
    by_lost : (o : Option Row) → slice_index_or rows to.0 None ≡ o → agrees (slot_in o reg.0) other ≡ false →
        rows' ≡ slice_set rows to.0 (forgotten reg.0 (slice_index_or rows to.0 None)) → other ≡ Some v
    by_lost None is no_ made = absurd (cc)
    by_lost (Some row) is no_ made =
        let told = differ-known (known row reg.0) other no_ in
        let in-row : reg.0 < length row = known-inside row reg.0 told.0 told.1 in
        let now : rows' ≡ slice_set rows to.0 (Some (slice_set row reg.0 None)) = made ∙ ap (λ o. slice_set rows to.0 (forgotten reg.0 o)) is in
        let same : known (slice_set row reg.0 None)
        ≡ k = same_Some (known (slice_set row reg.0 None)) k (sym (reached-same rows to (slice_set row reg.0 None) inside)
        ∙ sym (ap (λ (r : Rows). reached_at r to) now) ∙ here) in
        absurd (none-some v (sym (ap (λ (j : Knowledge). j reg.0) (known-set row reg.0 None in-row) ∙ at-written (known row) reg.0 reg.0 None refl)
        ∙ ap (λ (j : Knowledge). j reg.0) same ∙ e))

    by_kept : (o : Option Row) → slice_index_or rows to.0 None ≡ o → agrees (slot_in o reg.0) other ≡ true → rows' ≡ rows → other ≡ Some v
    by_kept None is yes_ made = absurd (none-some k (sym (ap (option_map known) is) ∙ sym (ap (λ (r : Rows). reached_at r to) made) ∙ here))
    by_kept (Some row) is yes_ made =
        let same : known row ≡ k = same_Some (known row) k (sym (ap (option_map known) is) ∙ sym (ap (λ (r : Rows). reached_at r to) made) ∙ here) in
        slot-agrees (known row reg.0) other v yes_ (ap (λ (j : Knowledge). j reg.0) same ∙ e)

-- one register more has met
pub met-more : (rows rows' : Rows) (work work' : List Work) (to : Label) (reg : Reg) (other : Option ℤ) (arrival : Row) (n : ℕ) → to.0 < length rows →
    Lowers rows work rows' work' → HasMet rows work to reg other rows' work' → reg.0 ≡ n → other ≡ known arrival n → AreMet rows to arrival n →
    AreMet rows' to arrival (n + 1)
met-more rows rows' work work' to reg other arrival n inside lowers met at is before =
    let now = still-reached rows rows' work work' to before.0 lowers before.1 in (
      now.0,
      now.1,
      λ r v h e. ⊎_elim
          (λ same. ap (known arrival) same ∙ sym is ∙ met-told rows rows' work work' to reg other now.0 inside met now.1 v (ap now.0 (at ∙ sym same) ∙ e))
          (λ other. before.2 r v (omega arith) (⊎_elim (λ is. sym is ∙ e) (λ lost. absurd (none-some v (sym lost.1 ∙ e))) (now.2 r)))
          (cases_eq r n),
    )
