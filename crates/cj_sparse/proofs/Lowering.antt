-- How a search goes on: what is known at labels becomes less, and that waits.
use Rattle.std.proofs.Common.{◌≡◌, ◌+◌, ◌<◌, ◌⊎◌, List, [], ◌∷◌, ◌++◌, length, Option, Some, None, refl, sym, ap, ◌∙◌, subst, inl, inr, ⊎_elim, arith}
use Rattle.std.proofs.Common.{length-set, length-append}
use Rattle.std.specs.Prelude.{ℤ, Contains, ⊤, slice_set, slice_index_or}
use Rattle.std.specs.Option.{option_map}
use Rattle.std.proofs.lemmas.Option.{none-some, same_Some}
use Rattle.std.proofs.lemmas.Bool.{cases_eq}
use Rattle.std.proofs.lemmas.List.Sums.{sum_by-set, count_by-le-length}
use Rattle.std.proofs.lemmas.List.Elements.{All-set, Contains-append_left, Contains-append_right, Contains-append_cases}
use Rattle.cj_ir.specs.declared.language.Label.{Label}
use Rattle.cj_ir.proofs.Members.{contains-one, contains-head}
use Rattle.cj_ir.proofs.Labels.{same_label}
use Rattle.cj_draft.specs.declared.facts.Fact.{Fact}
use Rattle.cj_draft.specs.declared.facts.Facts.{Facts}
use Rattle.cj_draft.specs.declared.instructions.VInstr.{VInstr}
use Rattle.cj_draft.specs.declared.code.Code.{Code}
use Rattle.cj_const.specs.Knowledge.{Knowledge, told_by, known}
use Rattle.cj_const.specs.Flow.{leaves, facts_at, IsWithin, IsConsistent}
use Rattle.cj_const.specs.Search.{AreRows, TellsNoMore, SaysLess, HasWidth, reached_at, is_known, rank}
use Rattle.cj_const.proofs.SearchSteps.{reached-same, reached-other}
use Rattle.cj_sparse.specs.declared.search.Work.{Work}
use Rattle.cj_sparse.specs.declared.search.Work.TheVariants.{Reached, Lost}
use Rattle.cj_sparse.specs.Losses.{SameOrLost, EdgeRests, IsLostAt, IsItem, IsBegun, LowersAt, Lowers, work_left, GoesOn, IsAbove}

abbrev Row : Type 0
Row = List (Option ℤ)

abbrev Rows : Type 0
Rows = List (Option Row)

abbrev no_row : Option Row
no_row = None

-- ---- what is the same, or lost

pub same-self : (work : List Work) (label : Label) (k : Knowledge) → SameOrLost work label k k
same-self work label k = λ r. inl refl

pub same-less : (work : List Work) (label : Label) (k k' : Knowledge) → SameOrLost work label k k' → TellsNoMore k' k
same-less work label k k' same r v e = ⊎_elim (λ is. sym is ∙ e) (λ lost. absurd (none-some v (sym lost.1 ∙ e))) (same r)

pub same-trans : (work work' : List Work) (label : Label) (k k' k'' : Knowledge) → ((item : Work) → Contains work item → Contains work' item) →
    SameOrLost work label k k' → SameOrLost work' label k' k'' → SameOrLost work' label k k''
same-trans work work' label k k' k'' still same same' = λ r. ⊎_elim
    (λ is. ⊎_elim (λ was. inl (is ∙ was)) (λ lost. inr (still (Lost label (record { 0 = r })) lost.0, is ∙ lost.1)) (same r))
    (λ lost. inr lost)
    (same' r)

-- ---- one label

at-self : (work : List Work) (label : Label) (o : Option Knowledge) → LowersAt work label o o
at-self work label None = inl refl
at-self work label (Some k) = (k, refl, same-self work label k)

at-trans : (work' work'' : List Work) (label : Label) (o o' o'' : Option Knowledge) → ((item : Work) → Contains work' item → Contains work'' item) →
    LowersAt work' label o o' → LowersAt work'' label o' o'' → LowersAt work'' label o o''
at-trans work' work'' label None o' o'' still low low' = ⊎_elim
    (λ none. subst (λ o. LowersAt work'' label o o'') none low')
    (λ waits. inr (still (Reached label) waits))
    low
at-trans work' work'' label (Some k) o' o'' still low low' =
    let next : LowersAt work'' label (Some low.0) o'' = subst (λ o. LowersAt work'' label o o'') low.1 low' in
    (next.0, next.1, same-trans work' work'' label k low.0 next.0 still low.2 next.2)

pub at-less : (work : List Work) (label : Label) (o o' x : Option Knowledge) → LowersAt work label o o' → SaysLess o x → SaysLess o' x
at-less work label o o' None low less = tt
at-less work label None o' (Some a) low less = absurd less
at-less work label (Some k) o' (Some a) low less =
    subst (λ z. SaysLess z (Some a)) (sym low.1) (λ r v e. less r v (same-less work label k low.0 low.2 r v e))

-- ---- all labels

pub lowers-self : (rows : Rows) (work : List Work) → Lowers rows work rows work
lowers-self rows work = record { still = λ item c. c; labels = λ label. at-self work label (reached_at rows label) }

pub lowers-trans : (rows rows' rows'' : Rows) (work work' work'' : List Work) → Lowers rows work rows' work' → Lowers rows' work' rows'' work'' →
    Lowers rows work rows'' work''
lowers-trans rows rows' rows'' work work' work'' one two = record {
  still = λ item c. two.still item (one.still item c);
  labels = λ label. at-trans work' work'' label (reached_at rows label) (reached_at rows' label) (reached_at rows'' label) two.still (one.labels label)
      (two.labels label);
}

-- what is known at a label that was reached
pub lowered-at : (rows rows' : Rows) (work work' : List Work) (label : Label) (k k' : Knowledge) → Lowers rows work rows' work' →
    reached_at rows label ≡ Some k → reached_at rows' label ≡ Some k' → SameOrLost work' label k k'
lowered-at rows rows' work work' label k k' lowers was here =
    let low : LowersAt work' label (Some k) (reached_at rows' label) = subst (λ o. LowersAt work' label o (reached_at rows' label)) was (lowers.labels label) in
    subst (SameOrLost work' label k) (same_Some low.0 k' (sym low.1 ∙ here)) low.2

pub still-reached : (rows rows' : Rows) (work work' : List Work) (label : Label) (k : Knowledge) → Lowers rows work rows' work' →
    reached_at rows label ≡ Some k → (k' : Knowledge) × (reached_at rows' label ≡ Some k') × SameOrLost work' label k k'
still-reached rows rows' work work' label k lowers was = subst (λ o. LowersAt work' label o (reached_at rows' label)) was (lowers.labels label)

-- an edge that rests still does
pub rests-lowered : (rows rows' : Rows) (work work' : List Work) (instr : VInstr) (label to : Label) → Lowers rows work rows' work' →
    EdgeRests rows work instr label to → EdgeRests rows' work' instr label to
rests-lowered rows rows' work work' instr label to lowers rests k' here = by_before (reached_at rows label) refl (lowers.labels label)
  where
    by_before : (o : Option Knowledge) → reached_at rows label ≡ o → LowersAt work' label o (reached_at rows' label) →
        Contains work' (Reached label) ⊎ ((before : Knowledge) × SaysLess (reached_at rows' to) (leaves before instr to) × SameOrLost work' label before k')
    by_before None is low = ⊎_elim (λ none. absurd (none-some k' (sym none ∙ here))) (λ waits. inl waits) low
    by_before (Some k) is low =
        let now : SameOrLost work' label k k' = subst (SameOrLost work' label k) (same_Some low.0 k' (sym low.1 ∙ here)) low.2 in
        ⊎_elim
        (λ waits. inl (lowers.still (Reached label) waits))
        (λ old. inr (
          old.0,
          at-less work' to (reached_at rows to) (reached_at rows' to) (leaves old.0 instr to) (lowers.labels to) old.1,
          same-trans work work' label old.0 k k' lowers.still old.2 now,
        ))
        (rests k is)

lost-lowered : (rows rows' : Rows) (work work' : List Work) (item : Work) → Lowers rows work rows' work' → IsLostAt rows item → IsLostAt rows' item
lost-lowered rows rows' work work' (Reached label) lowers lost = tt
lost-lowered rows rows' work work' (Lost label reg) lowers lost =
    let now = still-reached rows rows' work work' label lost.0 lowers lost.1 in
    (now.0, now.1, ⊎_elim (λ is. is ∙ lost.2) (λ none. none.1) (now.2 reg.0))

pub item-lowered : (code : Code) (rows rows' : Rows) (work work' : List Work) (item : Work) → Lowers rows work rows' work' → IsItem code rows item →
    IsItem code rows' item
item-lowered code rows rows' work work' item lowers is = record { label = is.label; lost = lost-lowered rows rows' work work' item lowers is.lost }

-- ---- states

pub goes-self : (context : List Fact) (code : Code) (rows : Rows) (work : List Work) → IsBegun context code rows work → GoesOn context code rows work rows work
goes-self context code rows work begun = record { begun = begun; lowers = lowers-self rows work; left = omega arith }

pub goes-trans : (context : List Fact) (code : Code) (rows rows' rows'' : Rows) (work work' work'' : List Work) → GoesOn context code rows work rows' work' →
    GoesOn context code rows' work' rows'' work'' → GoesOn context code rows work rows'' work''
goes-trans context code rows rows' rows'' work work' work'' one two =
    let first = one.left in
    let second = two.left in
    record {
      begun = two.begun;
      lowers = lowers-trans rows rows' rows'' work work' work'' one.lowers two.lowers;
      left = omega arith;
    }

-- ---- a row is written, and an item waits for it

module _ (context : List Fact) (code : Code) (rows : Rows) (work : List Work) (begun : IsBegun context code rows work) (to : Label)
    (within : to.0 < length code.places) (row : Row) (item : Work)
    (width : length row ≡ code.regs) (above : IsAbove context code to (known row))
    (low : LowersAt (work ++ item ∷ []) to (reached_at rows to) (Some (known row)))
    (is-item : IsItem code (slice_set rows to.0 (Some row)) item) (less : rank code.regs (Some row) < rank code.regs (slice_index_or rows to.0 None)) where
  abbrev rows' : Rows
  rows' = slice_set rows to.0 (Some row)

  abbrev work' : List Work
  work' = work ++ item ∷ []

  inside : to.0 < length rows
  inside = omega (arith, within, begun.found.count)

  lowers : Lowers rows work rows' work'
  lowers = record { still = λ x c. Contains-append_left work (item ∷ []) x c; labels = labels }
    where
      labels : (label : Label) → LowersAt work' label (reached_at rows label) (reached_at rows' label)
      labels label = ⊎_elim
          (λ e. subst (λ (x : Label). LowersAt work' x (reached_at rows x) (reached_at rows' x)) (sym (same_label label to e))
          (subst (LowersAt work' to (reached_at rows to)) (sym (reached-same rows to row inside)) low))
          (λ other. subst (LowersAt work' label (reached_at rows label)) (sym (reached-other rows to label row other))
          (at-self work' label (reached_at rows label)))
          (cases_eq label.0 to.0)

  above' : (table : List Facts) → IsConsistent context code table → (x : Label) → IsWithin (facts_at table x) (reached_at rows' x)
  above' table consistent x = ⊎_elim
      (λ e. subst (λ (y : Label). IsWithin (facts_at table y) (reached_at rows' y)) (sym (same_label x to e))
      (subst (IsWithin (facts_at table to)) (sym (reached-same rows to row inside)) (above table consistent)))
      (λ other. subst (IsWithin (facts_at table x)) (sym (reached-other rows to x row other)) (begun.found.above table consistent x))
      (cases_eq x.0 to.0)

  found : AreRows context code rows' (λ from next. ⊤)
  found = record {
    count = length-set rows to.0 (Some row) ∙ begun.found.count;
    widths = All-set (HasWidth code.regs) rows to.0 (Some row) width begun.found.widths;
    entry = at-less work' code.entry (reached_at rows code.entry) (reached_at rows' code.entry) (Some (told_by context))
        (lowers.labels code.entry) begun.found.entry;
    above = above';
    edges = λ from next place at c. inl tt;
  }

  items : (x : Work) → Contains work' x → IsItem code rows' x
  items x c = ⊎_elim
      (λ old. item-lowered code rows rows' work work' x lowers (begun.items x old))
      (λ new. subst (IsItem code rows') (contains-one item x new) is-item)
      (Contains-append_cases work (item ∷ []) x c)

  pub row-written : GoesOn context code rows work rows' work'
  unfolding work_left
  row-written =
      let sum = sum_by-set (rank code.regs) rows to.0 (Some row) None inside in
      let more = length-append work (item ∷ []) in
      record { begun = record { found = found; items = items }; lowers = lowers; left = omega arith }

-- ---- a label is reached

pub row-reached : (context : List Fact) (code : Code) (rows : Rows) (work : List Work) (to : Label) (row : Row) → IsBegun context code rows work →
    to.0 < length code.places → length row ≡ code.regs → IsAbove context code to (known row) → slice_index_or rows to.0 None ≡ None →
    GoesOn context code rows work (slice_set rows to.0 (Some row)) (work ++ Reached to ∷ [])
unfolding rank
row-reached context code rows work to row begun within width above none =
    let few = count_by-le-length is_known row in
    let before : rank code.regs (slice_index_or rows to.0 None) ≡ code.regs + 1 = ap (rank code.regs) none in
    row-written context code rows work begun to within row (Reached to) width above
    (subst (λ o. LowersAt (work ++ Reached to ∷ []) to o (Some (known row))) (sym (ap (option_map known) none))
    (inr (Contains-append_right work (Reached to ∷ []) (Reached to) (contains-head (Reached to) []))))
    (record { label = within; lost = tt })
    (omega arith)
