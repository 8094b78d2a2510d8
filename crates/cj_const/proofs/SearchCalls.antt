-- The calls of the search.
use Rattle.std.proofs.Common.{◌≡◌, ℕ, ◌<◌, ◌⊎◌, true, false, List, [], ◌∷◌, length, drop, get_or, Option, Some, None, refl, sym, ap, ◌∙◌, subst, inl, inr}
use Rattle.std.proofs.Common.{⊎_elim, arith}
use Rattle.std.specs.Prelude.{ℤ, All, Contains, IfSome, slice_get, slice_set, slice_index_or}
use Rattle.std.specs.Option.{option_map}
use Rattle.std.proofs.lemmas.Option.{none-some, same_Some, slice_get-get_or, get_or_from_slice_get}
use Rattle.std.proofs.lemmas.Bool.{not_from_true, not_from_false}
use Rattle.std.proofs.lemmas.List.Elements.{All-get_or}
use Rattle.cj_ir.specs.declared.language.Label.{Label}
use Rattle.cj_ir.proofs.Members.{contains-none, contains-cases, all-from_contains}
use Rattle.cj_links.specs.Waiting.{Waiting, IsOrderly, without_first}
use Rattle.cj_draft.specs.declared.facts.Fact.{Fact}
use Rattle.cj_draft.specs.declared.code.Place.{Place}
use Rattle.cj_draft.specs.declared.code.Code.{Code}
use Rattle.cj_draft.specs.Arrives.{place_at}
use Rattle.cj_draft.specs.Edges.{successors}
use Rattle.cj_const.specs.Knowledge.{Knowledge, known}
use Rattle.cj_const.specs.Flow.{leaves}
use Rattle.cj_const.specs.Search.{HasWidth, SaysLess, is_within, met, reached_at, IsBegun, IsFollowing, IsSearch, IsEdge, work_left, LetsWait, is_news}
use Rattle.cj_const.specs.Search.{met_with, HasArrived}
use Rattle.cj_const.proofs.SearchSteps.{edge-holds}

abbrev Row : Type 0
Row = List (Option ℤ)

abbrev Rows : Type 0
Rows = List (Option Row)

-- ---- reads

pub read-at : {X : Type 0} (xs ys : List X) (i : ℕ) (x d : X) → ys ≡ xs → i < length xs → x ≡ get_or ys i x → get_or xs i d ≡ x
read-at xs ys i x d same h is =
    get_or_from_slice_get xs i x d (slice_get-get_or xs i x h ∙ ap (λ zs. Some (get_or zs i x)) (sym same) ∙ ap Some (sym is))

pub place-read : (code code' : Code) (places : List Place) (x : Label) (p : Place) → code' ≡ code → places ≡ code'.places → x.0 < length code.places →
    p ≡ get_or places x.0 p → place_at code x ≡ Some p
place-read code code' places x p same e h is =
    slice_get-get_or code.places x.0 p h ∙ ap (λ (zs : List Place). Some (get_or zs x.0 p)) (sym (e ∙ ap (λ (c : Code). c.places) same)) ∙ ap Some (sym is)

-- ---- what arrives

pub arrived-first : (rows rows' : Rows) (w w' : Waiting) (to : Label) (arrival : Row) → slice_index_or rows to.0 None ≡ None →
    rows' ≡ slice_set rows to.0 (Some arrival) → LetsWait w w' to → HasArrived rows w to arrival rows' w'
unfolding is_news met_with
arrived-first rows rows' w w' to arrival e is lets =
    inl (ap (λ o. is_news o arrival) e, is ∙ ap (λ o. slice_set rows to.0 (Some (met_with o arrival))) (sym e), lets)

pub arrived-same : (rows : Rows) (w : Waiting) (to : Label) (row arrival : Row) → slice_index_or rows to.0 None ≡ Some row → is_within row arrival ≡ true →
    HasArrived rows w to arrival rows w
unfolding is_news
arrived-same rows w to row arrival e within =
    inr (ap (λ o. is_news o arrival) e ∙ not_from_true (is_within row arrival) within, refl, refl)

pub arrived-met : (rows rows' : Rows) (w w' : Waiting) (to : Label) (row arrival : Row) → slice_index_or rows to.0 None ≡ Some row →
    is_within row arrival ≡ false → rows' ≡ slice_set rows to.0 (Some (met row arrival)) → LetsWait w w' to → HasArrived rows w to arrival rows' w'
unfolding is_news met_with
arrived-met rows rows' w w' to row arrival e within is lets =
    inl (
      ap (λ o. is_news o arrival) e ∙ not_from_false (is_within row arrival) within,
      is
          ∙ ap (λ o. slice_set rows to.0 (Some (met_with o arrival))) (sym e),
      lets,
    )

-- ---- one edge

module _ (context : List Fact) (code : Code) (rows : Rows) (w : Waiting) (label to : Label) (p : Place) (at : place_at code label ≡ Some p)
    (edge : Contains (successors p.instr) to) where
  -- no run is known to come to the label
  pub passed-unreached : slice_index_or rows label.0 None ≡ None → (left : List Label) → IsFollowing context code rows w label (to ∷ left) →
      IsFollowing context code rows w label left
  passed-unreached e left s = edge-holds context code rows w label to left p at edge s (λ k is. absurd (none-some k (sym (ap (option_map known) e) ∙ is)))

  -- nothing arrives
  pub passed-nothing : (row : Row) (leaving : Option Row) → slice_index_or rows label.0 None ≡ Some row →
      option_map known leaving ≡ leaves (known row) p.instr to → leaving ≡ None → (left : List Label) → IsFollowing context code rows w label (to ∷ left) →
      IsFollowing context code rows w label left
  passed-nothing row leaving e is none left s = edge-holds context code rows w label to left p at edge s (λ k here.
      let same : known row ≡ k = same_Some (known row) k (sym (ap (option_map known) e) ∙ here) in
      subst (λ (j : Knowledge). SaysLess (reached_at rows to) (leaves j p.instr to)) same
      (subst (SaysLess (reached_at rows to)) (sym (ap (option_map known) none) ∙ is) tt))

-- ---- the kinds of search

pub begun-of : (context : List Fact) (code : Code) (rows : Rows) (w : Waiting) (label : Label) (left : List Label) →
    IsFollowing context code rows w label left → IsBegun context code rows w
begun-of context code rows w label left s = record {
  found = record {
    count = s.found.count;
    widths = s.found.widths;
    entry = s.found.entry;
    above = s.found.above;
    edges = λ from next q at c. inl tt;
  };
  waiting = s.waiting;
}

pub search-of : (context : List Fact) (code : Code) (rows : Rows) (w : Waiting) (label : Label) → IsFollowing context code rows w label [] →
    IsSearch context code rows w
search-of context code rows w label s = record {
  found = record {
    count = s.found.count;
    widths = s.found.widths;
    entry = s.found.entry;
    above = s.found.above;
    edges = λ from next q at c. ⊎_elim
        (λ opened. ⊎_elim (λ waits. inl waits) (λ mine. absurd (contains-none next mine.1)) opened)
        (λ holds. inr holds)
        (s.found.edges from next q at c);
  };
  waiting = s.waiting;
}

first-or-rest : (list : List Label) (label x : Label) → slice_get list 0 ≡ Some label → Contains list x → (x ≡ label) ⊎ Contains (drop 1 list) x
first-or-rest [] label x e c = absurd (contains-none x c)
first-or-rest (y ∷ list) label x e c = ⊎_elim (λ same. inl (sym same ∙ same_Some y label e)) (λ rest. inr rest) (contains-cases y x list c)

pub following-of : (context : List Fact) (code : Code) (rows : Rows) (w w' : Waiting) (label : Label) (p : Place) (left : List Label) →
    place_at code label ≡ Some p → left ≡ successors p.instr → slice_get w.list 0 ≡ Some label → w' ≡ without_first w → IsOrderly w' →
    IsSearch context code rows w → IsFollowing context code rows w' label left
following-of context code rows w w' label p left at is first rest orderly s = record {
  found = record {
    count = s.found.count;
    widths = s.found.widths;
    entry = s.found.entry;
    above = s.found.above;
    edges = λ from next q at' c. ⊎_elim
        (λ waits. ⊎_elim
        (λ mine.
        let same : q ≡ p = same_Some q p (sym at' ∙ ap (place_at code) mine ∙ at) in
        let there : Contains (successors p.instr) next = subst (λ (z : Place). Contains (successors z.instr) next) same c in
        inl (inr (mine, subst (λ (ls : List Label). Contains ls next) (sym is) there)))
        (λ later. inl (inl (subst (λ (v : Waiting). Contains v.list from) (sym rest) later)))
        (first-or-rest w.list label from first waits))
        (λ holds. inr holds)
        (s.found.edges from next q at' c);
  };
  waiting = record { labels = ap (λ (v : Waiting). v.labels) rest ∙ s.waiting.labels; orderly = orderly };
}

pub edges-of : (code : Code) (label : Label) (p : Place) (left : List Label) → place_at code label ≡ Some p → left ≡ successors p.instr →
    All (IsEdge code label) left
edges-of code label p left at is = subst (All (IsEdge code label)) (sym is) (all-from_contains (IsEdge code label) (successors p.instr) (λ to c place at'.
    subst (λ (z : Place). Contains (successors z.instr) to) (same_Some p place (sym at ∙ at')) c))

shorter : (list : List Label) (label : Label) → slice_get list 0 ≡ Some label → length (drop 1 list) < length list
shorter [] label e = absurd (none-some label e)
shorter (y ∷ list) label e = omega arith

pub taken-work : (n : ℕ) (rows : Rows) (w w' : Waiting) (label : Label) → slice_get w.list 0 ≡ Some label → w' ≡ without_first w →
    work_left n rows w' < work_left n rows w
unfolding work_left
taken-work n rows w w' label first rest =
    let list = ap (λ (v : Waiting). length v.list) rest in
    let less = shorter w.list label first in
    omega arith

pub arrival-wide : (n : ℕ) (rows : Rows) (i : ℕ) (row : Row) (leaving : Option Row) (arrival : Row) → All (HasWidth n) rows → i < length rows →
    slice_index_or rows i None ≡ Some row → IfSome leaving (λ new. length new ≡ length row) → leaving ≡ Some arrival → length arrival ≡ n
arrival-wide n rows i row leaving arrival widths h e wide is =
    let old : length row ≡ n = subst (HasWidth n) e (All-get_or (HasWidth n) rows i None h widths) in
    let new : length arrival ≡ length row = subst (λ (o : Option Row). IfSome o (λ r. length r ≡ length row)) is wide in
    new ∙ old
