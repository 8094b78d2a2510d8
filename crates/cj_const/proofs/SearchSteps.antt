-- A row that arrives keeps what the search keeps, and leaves less to do.
use Rattle.std.proofs.Common.{◌≡◌, ◌≢◌, ℕ, ◌<◌, ◌≤◌, ◌⊎◌, true, false, List, ◌∷◌, length, Option, Some, None, refl, sym, ap, ◌∙◌, subst, inl, inr, ⊎_elim}
use Rattle.std.proofs.Common.{arith, length-set}
use Rattle.std.specs.Prelude.{ℤ, All, Contains, sum_by, slice_set, slice_index_or}
use Rattle.std.specs.Option.{option_map}
use Rattle.std.proofs.lemmas.Option.{same_Some}
use Rattle.std.proofs.lemmas.Bool.{cases_eq, not-true, not-false}
use Rattle.std.proofs.lemmas.List.{get_or-set_same, get_or-set_other}
use Rattle.std.proofs.lemmas.List.Sums.{sum_by-set, count_by-le-length}
use Rattle.std.proofs.lemmas.List.Elements.{All-contains, All-weaker, All-set, All-get_or}
use Rattle.cj_ir.specs.declared.language.Label.{Label}
use Rattle.cj_ir.proofs.Members.{contains-cases}
use Rattle.cj_ir.proofs.Labels.{same_label}
use Rattle.cj_links.specs.Waiting.{Waiting}
use Rattle.cj_draft.specs.declared.facts.Fact.{Fact}
use Rattle.cj_draft.specs.declared.facts.Facts.{Facts}
use Rattle.cj_draft.specs.declared.facts.Facts.TheVariants.{Unreached, Known}
use Rattle.cj_draft.specs.declared.code.Place.{Place}
use Rattle.cj_draft.specs.declared.code.Code.{Code}
use Rattle.cj_draft.specs.Arrives.{place_at}
use Rattle.cj_draft.specs.Edges.{successors}
use Rattle.cj_const.specs.Knowledge.{Knowledge, told_by, known}
use Rattle.cj_const.specs.Flow.{leaves, facts_at, IsWithin, IsConsistent}
use Rattle.cj_const.specs.Search.{TellsNoMore, SaysLess, is_within, met, reached_at, HasWidth, EdgeHolds, IsFollowing, is_known, rank, work_left, LetsWait}
use Rattle.cj_const.specs.Search.{is_news, met_with, HasArrived}
use Rattle.cj_const.proofs.Told.{fact, told-contains}
use Rattle.cj_const.proofs.Monotone.{leaves-less}
use Rattle.cj_const.proofs.Meeting.{length-met, met-first, met-second, met-tells, within-tells, met-fewer}

abbrev Row : Type 0
Row = List (Option ℤ)

abbrev Rows : Type 0
Rows = List (Option Row)

-- ---- more and less

pub less-self : (o : Option Knowledge) → SaysLess o o
less-self None = tt
less-self (Some k) = λ r v e. e

pub less-trans : (a b c : Option Knowledge) → SaysLess a b → SaysLess b c → SaysLess a c
less-trans a b None h h' = tt
less-trans a None (Some k) h h' = absurd h'
less-trans None (Some k') (Some k) h h' = absurd h
less-trans (Some k'') (Some k') (Some k) h h' = λ r v e. h' r v (h r v e)

pub within-less : (facts : Facts) (o o' : Option Knowledge) → IsWithin facts o → SaysLess o o' → IsWithin facts o'
within-less facts o None within less = tt
within-less facts None (Some k') within less = absurd less
within-less Unreached (Some k) (Some k') within less = absurd within
within-less (Known facts) (Some k) (Some k') within less =
    All-weaker (λ (x : Fact). k x.reg.0 ≡ Some x.value) (λ (x : Fact). k' x.reg.0 ≡ Some x.value) (λ x e. less x.reg.0 x.value e) facts within

told-less : (facts : List Fact) (k : Knowledge) → All (λ x. k x.reg.0 ≡ Some x.value) facts → TellsNoMore (told_by facts) k
told-less facts k within r v e = All-contains (λ (x : Fact). k x.reg.0 ≡ Some x.value) facts (fact r v) within (told-contains facts r v e)

-- ---- rows that are written

pub reached-same : (rows : Rows) (to : Label) (row : Row) → to.0 < length rows → reached_at (slice_set rows to.0 (Some row)) to ≡ Some (known row)
reached-same rows to row h = ap (option_map known) (get_or-set_same rows to.0 (Some row) None h)

pub reached-other : (rows : Rows) (to x : Label) (row : Row) → x.0 ≢ to.0 → reached_at (slice_set rows to.0 (Some row)) x ≡ reached_at rows x
reached-other rows to x row h = ap (option_map known) (get_or-set_other rows to.0 x.0 (Some row) None h)

-- ---- an edge of the label that is followed

-- what arrives along an edge from a label says no less than a consistent table does
pub arrives-above : (context : List Fact) (code : Code) (table : List Facts) (label to : Label) (p : Place) (k : Knowledge) → IsConsistent context code table →
    place_at code label ≡ Some p → Contains (successors p.instr) to → IsWithin (facts_at table label) (Some k) →
    IsWithin (facts_at table to) (leaves k p.instr to)
arrives-above context code table label to p k consistent at edge within = by_facts (facts_at table label) refl within
  where
    by_facts : (facts : Facts) → facts_at table label ≡ facts → IsWithin facts (Some k) → IsWithin (facts_at table to) (leaves k p.instr to)
    by_facts Unreached e within = absurd within
    by_facts (Known facts) e within =
        within-less (facts_at table to) (leaves (told_by facts) p.instr to) (leaves k p.instr to) (consistent.edges label to p facts at e edge)
        (leaves-less (told_by facts) k p.instr to (told-less facts k within))

module _ (context : List Fact) (code : Code) (rows : Rows) (w : Waiting) (label to : Label) (left : List Label) (p : Place) (at : place_at code label ≡ Some p)
    (edge : Contains (successors p.instr) to) (s : IsFollowing context code rows w label (to ∷ left)) where
  -- the edge holds already
  pub edge-holds : EdgeHolds rows p.instr label to → IsFollowing context code rows w label left
  edge-holds holds = record {
    found = record {
      count = s.found.count;
      widths = s.found.widths;
      entry = s.found.entry;
      above = s.found.above;
      edges = λ from next q at' c. ⊎_elim
          (λ opened. ⊎_elim
          (λ waits. inl (inl waits))
          (λ mine. ⊎_elim
          (λ this. inr (moved from next q at' mine.0 this))
          (λ later. inl (inr (mine.0, later)))
          (contains-cases to next left mine.1))
          opened)
          (λ old. inr old)
          (s.found.edges from next q at' c);
    };
    waiting = s.waiting;
  }
    where
      moved : (from next : Label) (q : Place) → place_at code from ≡ Some q → from ≡ label → to ≡ next → EdgeHolds rows q.instr from next
      moved from next q at' e e' =
          let same : p ≡ q = same_Some p q (sym at ∙ ap (place_at code) (sym e) ∙ at') in
          subst (λ (y : Label). EdgeHolds rows q.instr from y) e'
          (subst (λ (x : Label). EdgeHolds rows q.instr x to) (sym e) (subst (λ (z : Place). EdgeHolds rows z.instr label to) same holds))

  -- the row at the edge's end is written
  module _ (k arrival : Knowledge) (here : reached_at rows label ≡ Some k) (arrives : leaves k p.instr to ≡ Some arrival) (row : Row)
      (within : to.0 < length rows) (width : length row ≡ code.regs)
      (less : SaysLess (Some (known row)) (reached_at rows to)) (second : TellsNoMore (known row) arrival)
      (greatest : (facts : Facts) → IsWithin facts (reached_at rows to) → IsWithin facts (Some arrival) → IsWithin facts (Some (known row)))
      (w' : Waiting) (lets : LetsWait w w' to) where
    abbrev rows' : Rows
    rows' = slice_set rows to.0 (Some row)

    all-less : (x : Label) → SaysLess (reached_at rows' x) (reached_at rows x)
    all-less x = ⊎_elim
        (λ e. subst (λ (y : Label). SaysLess (reached_at rows' y) (reached_at rows y)) (sym (same_label x to e))
        (subst (λ o. SaysLess o (reached_at rows to)) (sym (reached-same rows to row within)) less))
        (λ other. subst (λ o. SaysLess o (reached_at rows x)) (sym (reached-other rows to x row other)) (less-self (reached_at rows x)))
        (cases_eq x.0 to.0)

    above-to : (table : List Facts) → IsConsistent context code table → IsWithin (facts_at table to) (reached_at rows' to)
    above-to table consistent =
        let from : IsWithin (facts_at table label) (Some k) = subst (IsWithin (facts_at table label)) here (s.found.above table consistent label) in
        subst (IsWithin (facts_at table to)) (sym (reached-same rows to row within))
        (greatest (facts_at table to) (s.found.above table consistent to)
        (subst (IsWithin (facts_at table to)) arrives (arrives-above context code table label to p k consistent at edge from)))

    above' : (table : List Facts) → IsConsistent context code table → (x : Label) → IsWithin (facts_at table x) (reached_at rows' x)
    above' table consistent x = ⊎_elim
        (λ e. subst (λ (y : Label). IsWithin (facts_at table y) (reached_at rows' y)) (sym (same_label x to e)) (above-to table consistent))
        (λ other. subst (IsWithin (facts_at table x)) (sym (reached-other rows to x row other)) (s.found.above table consistent x))
        (cases_eq x.0 to.0)

    waits-now : (x : Label) → x.0 ≡ to.0 → Contains w'.list x
    waits-now x e = subst (Contains w'.list) (sym (same_label x to e)) lets.waits

    -- this edge holds now, or its label waits
    this-holds : Contains w'.list label ⊎ EdgeHolds rows' p.instr label to
    this-holds = ⊎_elim
        (λ e. inl (waits-now label e))
        (λ other. inr (λ k'' is.
        let same : k ≡ k'' = same_Some k k'' (sym here ∙ sym (reached-other rows to label row other) ∙ is) in
        subst (λ (j : Knowledge). SaysLess (reached_at rows' to) (leaves j p.instr to)) same
        (subst (SaysLess (reached_at rows' to)) (sym arrives) (subst (λ o. SaysLess o (Some arrival)) (sym (reached-same rows to row within)) second))))
        (cases_eq label.0 to.0)

    moved' : (from next : Label) (q : Place) → place_at code from ≡ Some q → from ≡ label → to ≡ next → EdgeHolds rows' p.instr label to →
        EdgeHolds rows' q.instr from next
    moved' from next q at' e e' holds =
        let same : p ≡ q = same_Some p q (sym at ∙ ap (place_at code) (sym e) ∙ at') in
        subst (λ (y : Label). EdgeHolds rows' q.instr from y) e'
        (subst (λ (x : Label). EdgeHolds rows' q.instr x to) (sym e) (subst (λ (z : Place). EdgeHolds rows' z.instr label to) same holds))

    abbrev Open : Label → Label → Type 0
    Open from next = Contains w'.list from ⊎ ((from ≡ label) × Contains left next)

    edges' : (from next : Label) (q : Place) → place_at code from ≡ Some q → Contains (successors q.instr) next →
        Open from next ⊎ EdgeHolds rows' q.instr from next
    edges' from next q at' c = ⊎_elim
        (λ opened. ⊎_elim
        (λ waits. inl (inl (lets.still from waits)))
        (λ mine. ⊎_elim
        (λ this. ⊎_elim
        (λ waits. inl (inl (subst (Contains w'.list) (sym mine.0) waits)))
        (λ holds. inr (moved' from next q at' mine.0 this holds))
        this-holds)
        (λ later. inl (inr (mine.0, later)))
        (contains-cases to next left mine.1))
        opened)
        (λ old. ⊎_elim
        (λ e. inl (inl (waits-now from e)))
        (λ other. inr (λ k'' is.
        less-trans (reached_at rows' next) (reached_at rows next) (leaves k'' q.instr next) (all-less next)
        (old k'' (sym (reached-other rows to from row other) ∙ is))))
        (cases_eq from.0 to.0))
        (s.found.edges from next q at' c)

    pub row-written : IsFollowing context code rows' w' label left
    row-written = record {
      found = record {
        count = length-set rows to.0 (Some row) ∙ s.found.count;
        widths = All-set (HasWidth code.regs) rows to.0 (Some row) width s.found.widths;
        entry = less-trans (reached_at rows' code.entry) (reached_at rows code.entry) (Some (told_by context)) (all-less code.entry) s.found.entry;
        above = above';
        edges = edges';
      };
      waiting = record { labels = lets.labels ∙ s.waiting.labels; orderly = lets.orderly };
    }

-- ---- a row that arrives

met-greatest : (row others : Row) → length others ≡ length row → (facts : Facts) → IsWithin facts (Some (known row)) → IsWithin facts (Some (known others)) →
    IsWithin facts (Some (known (met row others)))
met-greatest row others count Unreached h h' = absurd h
met-greatest row others count (Known facts) h h' = λ i d lt. met-tells row others _ _ count (h i d lt) (h' i d lt)

module _ (context : List Fact) (code : Code) (rows rows' : Rows) (w w' : Waiting) (label to : Label) (left : List Label) (p : Place) (at : place_at code label
    ≡ Some p) (edge : Contains (successors p.instr) to) (s : IsFollowing context code rows w label (to ∷ left))
    (k : Knowledge) (here : reached_at rows label ≡ Some k) (arrival : Row) (arrives : leaves k p.instr to ≡ Some (known arrival))
    (within : to.0 < length rows) (width : length arrival ≡ code.regs) where
  arrived-news : (o : Option Row) → slice_index_or rows to.0 None ≡ o → is_news o arrival ≡ true → LetsWait w w' to →
      IsFollowing context code (slice_set rows to.0 (Some (met_with o arrival))) w' label left
  unfolding is_news met_with
  arrived-news None e news lets =
      row-written context code rows w label to left p at edge s k (known arrival) here arrives arrival within width
      (subst (SaysLess (Some (known arrival))) (sym (ap (option_map known) e)) tt) (λ r v h. h) (λ facts h h'. h') w' lets
  arrived-news (Some row) e news lets =
      let wide : length row ≡ code.regs = subst (HasWidth code.regs) e (All-get_or (HasWidth code.regs) rows to.0 None within s.found.widths) in
      let count : length arrival ≡ length row = width ∙ sym wide in
      let there : reached_at rows to ≡ Some (known row) = ap (option_map known) e in
      row-written context code rows w label to left p at edge s k (known arrival) here arrives (met row arrival) within (length-met row arrival count ∙ wide)
      (subst (SaysLess (Some (known (met row arrival)))) (sym there) (met-first row arrival count)) (met-second row arrival count)
      (λ facts h h'. met-greatest row arrival count facts (subst (IsWithin facts) there h) h') w' lets

  arrived-none : (o : Option Row) → slice_index_or rows to.0 None ≡ o → is_news o arrival ≡ false → IsFollowing context code rows w label left
  unfolding is_news
  arrived-none None e news = absurd (cc)
  arrived-none (Some row) e news =
      let wide : length row ≡ code.regs = subst (HasWidth code.regs) e (All-get_or (HasWidth code.regs) rows to.0 None within s.found.widths) in
      let told : TellsNoMore (known row) (known arrival) = within-tells row arrival (width ∙ sym wide) (not-false (is_within row arrival) news) in
      edge-holds context code rows w label to left p at edge s (λ k'' is.
      let same : k ≡ k'' = same_Some k k'' (sym here ∙ is) in
      subst (λ (j : Knowledge). SaysLess (reached_at rows to) (leaves j p.instr to)) same
      (subst (SaysLess (reached_at rows to)) (sym arrives) (subst (λ o. SaysLess o (Some (known arrival))) (sym (ap (option_map known) e)) told)))

  pub row-arrived : HasArrived rows w to arrival rows' w' → IsFollowing context code rows' w' label left
  row-arrived h = ⊎_elim
      (λ news. subst (λ (r : Rows). IsFollowing context code r w' label left) (sym news.1) (arrived-news (slice_index_or rows to.0 None) refl news.0 news.2))
      (λ none. subst (λ (r : Rows). IsFollowing context code r w' label left) (sym none.1)
      (subst (λ (v : Waiting). IsFollowing context code rows v label left) (sym none.2) (arrived-none (slice_index_or rows to.0 None) refl none.0)))
      h

-- ---- what is left to do

rank-less : (n : ℕ) (o : Option Row) (arrival : Row) → HasWidth n o → length arrival ≡ n → is_news o arrival ≡ true →
    rank n (Some (met_with o arrival)) < rank n o
unfolding rank is_news met_with
rank-less n None arrival wide width news = omega (arith, count_by-le-length is_known arrival)
rank-less n (Some row) arrival wide width news = met-fewer row arrival (width ∙ sym wide) (not-true (is_within row arrival) news)

pub arrived-work : (n : ℕ) (rows rows' : Rows) (w w' : Waiting) (to : Label) (arrival : Row) → All (HasWidth n) rows → to.0 < length rows →
    length arrival ≡ n → HasArrived rows w to arrival rows' w' → work_left n rows' w' ≤ work_left n rows w
unfolding work_left
arrived-work n rows rows' w w' to arrival widths within width h = ⊎_elim
    (λ news.
    let o = slice_index_or rows to.0 None in
    let row : Row = met_with o arrival in
    let less = rank-less n o arrival (All-get_or (HasWidth n) rows to.0 None within widths) width news.0 in
    let sum = sum_by-set (rank n) rows to.0 (Some row) None within in
    let same = ap (sum_by (rank n)) news.1 in
    let few = news.2.few in
    omega arith)
    (λ none.
    let same = ap (sum_by (rank n)) none.1 in
    let list = ap (λ (v : Waiting). length v.list) none.2 in
    omega arith)
    h
