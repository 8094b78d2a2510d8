-- What the search keeps as it begins, and that its facts are the strongest where no label waits.
use Rattle.std.proofs.Common.{◌≡◌, ◌≢◌, ℕ, suc, ◌<◌, ◌⊎◌, List, [], ◌∷◌, length, map, get_or, replicate, Option, Some, None, refl, sym, ap, ap₂, ◌∙◌, subst}
use Rattle.std.proofs.Common.{inl, inr, ⊎_elim, arith, length-set}
use Rattle.std.specs.Prelude.{ℤ, All, Contains, slice_set, slice_index_or}
use Rattle.std.specs.Option.{option_map}
use Rattle.std.proofs.Math.ListN.{get_or-map}
use Rattle.std.proofs.lemmas.Option.{none-some}
use Rattle.std.proofs.lemmas.Bool.{cases_eq, cases_lt}
use Rattle.std.proofs.lemmas.List.{length-map, length-replicate, get_or-replicate, get_or_past}
use Rattle.std.proofs.lemmas.List.Elements.{All-weaker, All-set, All-map, All-replicate, All-get_or}
use Rattle.cj_ir.specs.declared.language.Label.{Label}
use Rattle.cj_ir.proofs.Members.{contains-none, all-from_contains}
use Rattle.cj_ir.proofs.Labels.{same_label}
use Rattle.cj_links.specs.Waiting.{Waiting, none_waits}
use Rattle.cj_draft.specs.declared.facts.Fact.{Fact}
use Rattle.cj_draft.specs.declared.facts.Facts.{Facts}
use Rattle.cj_draft.specs.declared.facts.Facts.TheVariants.{Unreached, Known}
use Rattle.cj_draft.specs.declared.code.Place.{Place}
use Rattle.cj_draft.specs.declared.code.Code.{Code}
use Rattle.cj_draft.specs.WellNamed.{AreFactsFine, HasFineFacts}
use Rattle.cj_draft.specs.Arrives.{place_at}
use Rattle.cj_draft.specs.Sound.{AreAmong}
use Rattle.cj_draft.specs.Edges.{successors}
use Rattle.cj_const.specs.Knowledge.{Knowledge, told_by, known}
use Rattle.cj_const.specs.Flow.{leaves, facts_at, SaysNoMore, IsWithin, IsConsistent, IsStrongest}
use Rattle.cj_const.specs.Folding.{facts_below}
use Rattle.cj_const.specs.Search.{TellsNoMore, SaysLess, facts_in, reached_at, HasWidth, EdgeHolds, IsSearch, LetsWait}
use Rattle.cj_const.proofs.Told.{fact, told-contains, fine-told, below-in, in-below, below-fine, fine-one}
use Rattle.cj_const.proofs.Monotone.{leaves-less}
use Rattle.cj_const.proofs.Rows.{known-inside}
use Rattle.cj_const.proofs.SearchSteps.{less-trans, reached-same, reached-other}

abbrev Row : Type 0
Row = List (Option ℤ)

abbrev Rows : Type 0
Rows = List (Option Row)

abbrev no_row : Option Row
no_row = None

-- ---- the beginning

unreached : (n : ℕ) (x : Label) → reached_at (replicate n None) x ≡ None
unreached n x = ⊎_elim
    (λ below. ap (option_map known) (get_or-replicate n x.0 no_row None below))
    (λ past. ap (option_map known) (get_or_past (replicate n no_row) x.0 None (omega (arith, length-replicate n no_row))))
    (cases_lt x.0 n)

among-within : (n : ℕ) (context : List Fact) (facts : Facts) → AreFactsFine n context → AreAmong context facts → IsWithin facts (Some (told_by context))
among-within n context Unreached fine among = absurd among
among-within n context (Known facts) fine among =
    All-weaker (Contains context) (λ (x : Fact). told_by context x.reg.0 ≡ Some x.value) (λ x c. fine-told n context x fine c) facts among

module _ (context : List Fact) (code : Code) (rows : Rows) (w : Waiting) (row : Row) (params : ℕ) (fine : AreFactsFine params context)
    (told : known row ≡ told_by context) (width : length row ≡ code.regs) (within : code.entry.0 < length code.places)
    (is : rows ≡ slice_set (replicate (length code.places) None) code.entry.0 (Some row)) (lets : LetsWait (none_waits (length code.places)) w code.entry) where
  abbrev none : Rows
  none = replicate (length code.places) None

  count : length none ≡ length code.places
  count = length-replicate (length code.places) no_row

  inside : code.entry.0 < length none
  inside = omega (arith, count)

  at-entry : reached_at rows code.entry ≡ Some (told_by context)
  at-entry = ap (λ (r : Rows). reached_at r code.entry) is ∙ reached-same none code.entry row inside ∙ ap Some told

  at-other : (x : Label) → x.0 ≢ code.entry.0 → reached_at rows x ≡ None
  at-other x other = ap (λ (r : Rows). reached_at r x) is ∙ reached-other none code.entry x row other ∙ unreached (length code.places) x

  begun-above : (table : List Facts) → IsConsistent context code table → (x : Label) → IsWithin (facts_at table x) (reached_at rows x)
  begun-above table consistent x = ⊎_elim
      (λ e. subst (λ (y : Label). IsWithin (facts_at table y) (reached_at rows y)) (sym (same_label x code.entry e))
      (subst (IsWithin (facts_at table code.entry)) (sym at-entry) (among-within params context (facts_at table code.entry) fine consistent.entry)))
      (λ other. subst (IsWithin (facts_at table x)) (sym (at-other x other)) tt)
      (cases_eq x.0 code.entry.0)

  begun-edges : (x to : Label) (place : Place) → Contains w.list x ⊎ EdgeHolds rows place.instr x to
  begun-edges x to place = ⊎_elim
      (λ e. inl (subst (Contains w.list) (sym (same_label x code.entry e)) lets.waits))
      (λ other. inr (λ k here. absurd (none-some k (sym (at-other x other) ∙ here))))
      (cases_eq x.0 code.entry.0)

  pub search-begins : IsSearch context code rows w
  search-begins = record {
    found = record {
      count = ap length is ∙ length-set none code.entry.0 (Some row) ∙ count;
      widths = subst (All (HasWidth code.regs)) (sym is)
          (All-set (HasWidth code.regs) none code.entry.0 (Some row) width (All-replicate (HasWidth code.regs) (length code.places) None tt));
      entry = subst (λ o. SaysLess o (Some (told_by context))) (sym at-entry) (λ r v e. e);
      above = begun-above;
      edges = λ x to place at c. begun-edges x to place;
    };
    waiting = record { labels = lets.labels; orderly = lets.orderly };
  }

-- ---- the end

in-row : (n : ℕ) (row : Row) (r : ℕ) (v : ℤ) → length row ≡ n → known row r ≡ Some v → Contains (facts_below (known row) n) (fact r v)
in-row n row r v width e =
    let low = known-inside row r v e in
    in-below (known row) n r v (omega arith) e

row-fine : (n : ℕ) (o : Option Row) → HasFineFacts n (facts_in n o)
unfolding facts_in
row-fine n None = tt
row-fine n (Some row) = below-fine (known row) n

row-among : (n : ℕ) (context : List Fact) (o : Option Row) → SaysLess (option_map known o) (Some (told_by context)) → AreAmong context (facts_in n o)
unfolding facts_in
row-among n context None less = absurd less
row-among n context (Some row) less = all-from_contains (Contains context) (facts_below (known row) n) (λ x c.
    told-contains context x.reg.0 x.value (less x.reg.0 x.value (below-in (known row) n x c).1))

row-within : (n : ℕ) (o : Option Row) (leaving : Option Knowledge) → SaysLess (option_map known o) leaving → IsWithin (facts_in n o) leaving
unfolding facts_in
row-within n o None less = tt
row-within n None (Some k) less = absurd less
row-within n (Some row) (Some k) less =
    all-from_contains (λ (x : Fact). k x.reg.0 ≡ Some x.value) (facts_below (known row) n) (λ x c. less x.reg.0 x.value (below-in (known row) n x c).1)

row-told : (n : ℕ) (row : Row) → length row ≡ n → TellsNoMore (known row) (told_by (facts_below (known row) n))
row-told n row width r v e = fine-told n (facts_below (known row) n) (fact r v) (below-fine (known row) n) (in-row n row r v width e)

within-no_more : (n : ℕ) (facts : Facts) (o : Option Row) → HasWidth n o → IsWithin facts (option_map known o) → SaysNoMore facts (facts_in n o)
unfolding facts_in
within-no_more n facts None wide within = tt
within-no_more n Unreached (Some row) wide within = absurd within
within-no_more n (Known facts) (Some row) wide within =
    All-weaker (λ (x : Fact). known row x.reg.0 ≡ Some x.value) (Contains (facts_below (known row) n)) (λ x e. in-row n row x.reg.0 x.value wide e) facts within

same-known : (a b : List Fact) → Known a ≡ Known b → a ≡ b
same-known a b e = cc

module _ (context : List Fact) (code : Code) (rows : Rows) (w : Waiting) (s : IsSearch context code rows w) (none : w.list ≡ []) where
  abbrev n : ℕ
  n = code.regs

  abbrev table : List Facts
  table = map (facts_in n) rows

  at : (x : Label) → facts_at table x ≡ facts_in n (slice_index_or rows x.0 None)
  unfolding facts_in
  at x = get_or-map (facts_in n) rows x.0 None

  wide : (x : Label) → HasWidth n (slice_index_or rows x.0 None)
  wide x = ⊎_elim
      (λ below. All-get_or (HasWidth n) rows x.0 None below s.found.widths)
      (λ past. subst (HasWidth n) (sym (get_or_past rows x.0 None past)) tt)
      (cases_lt x.0 (length rows))

  holds : (x to : Label) (place : Place) → place_at code x ≡ Some place → Contains (successors place.instr) to → EdgeHolds rows place.instr x to
  holds x to place at' c = ⊎_elim
      (λ waits. absurd (contains-none x (subst (λ (ls : List Label). Contains ls x) none waits)))
      (λ holds. holds)
      (s.found.edges x to place at' c)

  edges : (x to : Label) (place : Place) (facts : List Fact) → place_at code x ≡ Some place → facts_at table x ≡ Known facts →
      Contains (successors place.instr) to → IsWithin (facts_at table to) (leaves (told_by facts) place.instr to)
  unfolding facts_in
  edges x to place facts at' e c = by_row (slice_index_or rows x.0 None) refl (sym (at x) ∙ e)
    where
      by_row : (o : Option Row) → slice_index_or rows x.0 None ≡ o → facts_in n (slice_index_or rows x.0 None) ≡ Known facts →
          IsWithin (facts_at table to) (leaves (told_by facts) place.instr to)
      by_row None is known_ = absurd (unreached-known (sym (ap (facts_in n) is) ∙ known_))
        where
          unreached-known : Unreached ≡ Known facts → ⊥
          unreached-known e = cc
      by_row (Some row) is known_ =
          let same : facts_below (known row) n ≡ facts = same-known (facts_below (known row) n) facts (sym (ap (facts_in n) is) ∙ known_) in
          let width : length row ≡ n = subst (HasWidth n) is (wide x) in
          let less : TellsNoMore (known row) (told_by facts) = subst (λ (fs : List Fact). TellsNoMore (known row) (told_by fs)) same (row-told n row width) in
          subst (λ (f : Facts). IsWithin f (leaves (told_by facts) place.instr to)) (sym (at to))
          (row-within n (slice_index_or rows to.0 None) (leaves (told_by facts) place.instr to)
          (less-trans (reached_at rows to) (leaves (known row) place.instr to) (leaves (told_by facts) place.instr to)
          (holds x to place at' c (known row) (ap (option_map known) is))
          (leaves-less (known row) (told_by facts) place.instr to less)))

  pub search-ends : IsStrongest context code table
  search-ends = record {
    consistent = record {
      count = length-map rows (facts_in n) ∙ s.found.count;
      fine = All-map (HasFineFacts n) (facts_in n) rows (λ i d lt. row-fine n (get_or rows i d));
      entry = subst (AreAmong context) (sym (at code.entry)) (row-among n context (slice_index_or rows code.entry.0 None) s.found.entry);
      edges = edges;
    };
    strongest = λ other consistent x.
        subst (SaysNoMore (facts_at other x)) (sym (at x))
        (within-no_more n (facts_at other x) (slice_index_or rows x.0 None) (wide x) (s.found.above other consistent x));
  }

-- ---- there is one strongest table

one-facts : (n : ℕ) (one other : Facts) → HasFineFacts n one → HasFineFacts n other → SaysNoMore one other → SaysNoMore other one → one ≡ other
one-facts n Unreached Unreached fine fine' to from = refl
one-facts n Unreached (Known ys) fine fine' to from = absurd to
one-facts n (Known xs) Unreached fine fine' to from = absurd from
one-facts n (Known xs) (Known ys) fine fine' to from = ap Known (fine-one n xs ys fine fine' to from)

one-table : (xs ys : List Facts) → length xs ≡ length ys → ((i : ℕ) → i < length xs → get_or xs i Unreached ≡ get_or ys i Unreached) → xs ≡ ys
one-table [] [] count same = refl
one-table [] (y ∷ ys) count same = absurd (omega arith)
one-table (x ∷ xs) [] count same = absurd (omega arith)
one-table (x ∷ xs) (y ∷ ys) count same =
    ap₂ (λ (z : Facts) (zs : List Facts). z ∷ zs) (same 0 (omega arith)) (one-table xs ys (omega arith) (λ i h. same (suc i) (omega arith)))

pub strongest-one : (context : List Fact) (code : Code) (one other : List Facts) → IsStrongest context code one → IsStrongest context code other → one ≡ other
strongest-one context code one other s s' =
    let count : length one ≡ length other = s.consistent.count ∙ sym s'.consistent.count in
    one-table one other count (λ i h.
    let x : Label = record { 0 = i } in
    let h' : i < length other = omega arith in
    one-facts code.regs (get_or one i Unreached) (get_or other i Unreached)
    (All-get_or (HasFineFacts code.regs) one i Unreached h s.consistent.fine)
    (All-get_or (HasFineFacts code.regs) other i Unreached h' s'.consistent.fine)
    (s'.strongest one s.consistent x)
    (s.strongest other s'.consistent x))
