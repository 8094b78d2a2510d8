-- What the sparse search keeps as it begins, and that its facts are the strongest where nothing waits.
use Rattle.std.proofs.Common.{◌≡◌, ℕ, ◌<◌, List, [], ◌∷◌, length, map, replicate, Option, Some, None, refl, sym, ◌∙◌, subst, inl, inr, ⊎_elim, arith}
use Rattle.std.specs.Prelude.{ℤ, Contains, slice_set}
use Rattle.std.proofs.lemmas.List.Elements.{All-cons, All-nil}
use Rattle.cj_ir.specs.declared.language.Label.{Label}
use Rattle.cj_ir.proofs.Members.{contains-none, contains-one, contains-head}
use Rattle.cj_links.specs.Waiting.{Waiting, waiting, none_waits, IsOrderly}
use Rattle.cj_draft.specs.declared.facts.Fact.{Fact}
use Rattle.cj_draft.specs.declared.code.Place.{Place}
use Rattle.cj_draft.specs.declared.code.Code.{Code}
use Rattle.cj_draft.specs.WellNamed.{AreFactsFine}
use Rattle.cj_draft.specs.Arrives.{place_at}
use Rattle.cj_draft.specs.Edges.{successors}
use Rattle.cj_const.specs.Knowledge.{told_by, known}
use Rattle.cj_const.specs.Flow.{leaves, IsStrongest}
use Rattle.cj_const.specs.Search.{SaysLess, TellsNoMore, reached_at, facts_in, EdgeHolds, LetsWait}
use Rattle.cj_const.specs.Search as dense
use Rattle.cj_const.proofs.Monotone.{leaves-less}
use Rattle.cj_const.proofs.SearchSteps.{less-trans}
use Rattle.cj_const.proofs.SearchEnds.{search-begins, search-ends}
use Rattle.cj_sparse.specs.declared.search.Work.{Work}
use Rattle.cj_sparse.specs.declared.search.Work.TheVariants.{Reached, Lost}
use Rattle.cj_sparse.specs.Losses.{EdgeRests, IsItem, IsSearch}
use Rattle.cj_sparse.proofs.Lowering.{same-self}

abbrev Row : Type 0
Row = List (Option ℤ)

abbrev Rows : Type 0
Rows = List (Option Row)

-- ---- the beginning

one-orderly : (n : ℕ) (label : Label) → label.0 < n → IsOrderly (waiting n (label ∷ []))
one-orderly n label h = record {
  few = omega arith;
  within = All-cons (λ (x : Label). x.0 < n) label [] h (All-nil (λ (x : Label). x.0 < n));
  once = λ i j d up inside. absurd (omega arith);
}

module _ (context : List Fact) (code : Code) (rows : Rows) (row : Row) (params : ℕ) (fine : AreFactsFine params context) (told : known row ≡ told_by context)
    (width : length row ≡ code.regs) (within : code.entry.0 < length code.places)
    (is : rows ≡ slice_set (replicate (length code.places) None) code.entry.0 (Some row)) where
  abbrev w : Waiting
  w = waiting (length code.places) (code.entry ∷ [])

  lets : LetsWait (none_waits (length code.places)) w code.entry
  lets = record {
    labels = refl;
    waits = contains-head code.entry [];
    still = λ other c. absurd (contains-none other c);
    few = omega arith;
    orderly = one-orderly (length code.places) code.entry within;
  }

  begun : dense.IsSearch context code rows w
  begun = search-begins context code rows w row params fine told width within is lets

  pub sparse-begins : (work : List Work) → work ≡ Reached code.entry ∷ [] → IsSearch context code rows work
  sparse-begins work e = subst (IsSearch context code rows) (sym e) (record {
    begun = record {
      found = record {
        count = begun.found.count;
        widths = begun.found.widths;
        entry = begun.found.entry;
        above = begun.found.above;
        edges = λ from to place at c. inl tt;
      };
      items = λ item c. subst (IsItem code rows) (contains-one (Reached code.entry) item c) (record { label = within; lost = tt });
    };
    edges = edges;
  })
    where
      edges : (label : Label) (place : Place) (to : Label) → place_at code label ≡ Some place → Contains (successors place.instr) to →
          EdgeRests rows (Reached code.entry ∷ []) place.instr label to
      edges label place to at c k here = ⊎_elim
          (λ waits. inl (subst (λ (l : Label). Contains (Reached code.entry ∷ []) (Reached l)) (contains-one code.entry label waits)
          (contains-head (Reached code.entry) [])))
          (λ holds. inr (k, holds k here, same-self (Reached code.entry ∷ []) label k))
          (begun.found.edges label to place at c)

-- ---- the end

pub sparse-ends : (context : List Fact) (code : Code) (rows : Rows) (work : List Work) → IsSearch context code rows work → work ≡ [] →
    IsStrongest context code (map (facts_in code.regs) rows)
sparse-ends context code rows work s none = search-ends context code rows (none_waits (length code.places)) dense_search refl
  where
    holds : (label to : Label) (place : Place) → place_at code label ≡ Some place → Contains (successors place.instr) to → EdgeHolds rows place.instr label to
    holds label to place at c k here = ⊎_elim
        (λ waits. absurd (contains-none (Reached label) (subst (λ (ls : List Work). Contains ls (Reached label)) none waits)))
        (λ old.
        let less : TellsNoMore old.0 k = λ r v e. ⊎_elim (λ same. same ∙ e)
        (λ lost. absurd (contains-none (Lost label (record { 0 = r }))
        (subst (λ (ls : List Work). Contains ls (Lost label (record { 0 = r }))) none lost.0))) (old.2 r) in
        less-trans (reached_at rows to) (leaves old.0 place.instr to) (leaves k place.instr to) old.1 (leaves-less old.0 k place.instr to less))
        (s.edges label place to at c k here)

    orderly : IsOrderly (none_waits (length code.places))
    orderly = record { few = omega arith; within = All-nil (λ (x : Label). x.0 < length code.places); once = λ i j d up inside. absurd (omega arith) }

    dense_search : dense.IsSearch context code rows (none_waits (length code.places))
    dense_search = record {
      found = record {
        count = s.begun.found.count;
        widths = s.begun.found.widths;
        entry = s.begun.found.entry;
        above = s.begun.found.above;
        edges = λ label to place at c. inr (holds label to place at c);
      };
      waiting = record { labels = refl; orderly = orderly };
    }
