-- Each step keeps the rule.
use Rattle.std.proofs.Common.{◌≡◌, ◌≢◌, ℕ, zero, suc, ◌+◌, ◌%◌, ◌^◌, ◌<◌, ◌≤◌, eqb, eq-eqb, ne_eqb, Bool, if◌then◌else◌, true, true≢false, List, [], ◌∷◌, ◌++◌}
use Rattle.std.proofs.Common.{length, set, get_or, max, Option, Some, None, refl, sym, ap, ◌∙◌, subst, ⊎_elim, arith, length-set, get_or-set_other}
use Rattle.std.proofs.Common.{get_or-set_same}
use mathlib.Core.Option.{none, some, some-ne-none}
use mathlib.Core.Logic.{dite}
use native.Mathlib.Decide.{ℕ_discrete}
use lib.ListN.{get_elem?}
use prog.Atomic.{either}
use Rattle.atomic_table.specs.Table.{State, Me, step, keeps, stepped, Allows, Splits, Joins}
use Rattle.atomic_table.proofs.Lists.{at_set, at_snoc, set_again}
use Rattle.cj_ir.specs.declared.language.FunId.{FunId}
use Rattle.cj_ir.specs.declared.language.Program.{Program}
use Rattle.cj_profile.specs.declared.layout.Word.TheVariants.{Asked}
use Rattle.cj_profile.specs.declared.view.View.{View}
use Rattle.cj_profile.specs.Words.{number, word_count}
use Rattle.cj_profile.specs.Starts.{left_in}
use Rattle.cj_profile.specs.Rule.{Ruled, IsSoleIn, shared, given, spent_view, joined_view, Follows, loaded, stored, added, raised, exchanged}
use Rattle.cj_profile.proofs.Starting.{left_more}

-- no function's asked level stands there
abbrev pub IsApart : Program → ℕ → Type 0
IsApart p i = (f : FunId) → f.0 < length p.functions → i ≡ number (Asked f) → ⊥

abbrev with_read : View → ℕ → Option ℕ → ℕ → View
with_read v i found left = record {
  live = v.live;
  sole = v.sole;
  program = v.program;
  reads = v.reads ++ record { word = i; found = found; left = left }
      ∷ [];
  joined = v.joined;
  splits = v.splits;
}

follows : (v : View) (i : ℕ) (found : Option ℕ) (left : ℕ) → Follows v (with_read v i found left) (record { word = i; found = found; left = left })
follows v i found left = record { live = refl; sole = refl; program = refl; reads = refl; joined = refl; splits = refl }

is_below : (vs : List View) (j : ℕ) (v : View) → get_elem? vs j ≡ some v → j < length vs
is_below [] j v e = absurd (some-ne-none v (sym e))
is_below (x ∷ vs) zero v e = omega arith
is_below (x ∷ vs) (suc j) v e = let l = is_below vs j v e in omega arith

module _ {S : Type 0} where
  views_set : (p : Program) (s : State S View) (r : Ruled p s) (id : ℕ) (w : View) → (w.live ≡ true → w.program ≡ p) → (j : ℕ) (u : View) →
      get_elem? (set s.views id w) j ≡ some u → u.live ≡ true → u.program ≡ p
  views_set p s r id w mine j u e = ⊎_elim (λ (t : (j ≡ id) × (w ≡ u)). subst (λ (y : View). y.live ≡ true → y.program ≡ p) t.1 mine)
      (λ (t : (j ≢ id) × (get_elem? s.views j ≡ some u)). r.views j u t.1) (at_set s.views id j w u e)

  -- where a seat is the only one, each seat is that one
  alone : (p : Program) (s : State S View) (r : Ruled p s) (j : ℕ) (u : View) → get_elem? s.views j ≡ some u → u.sole ≡ true → (k : ℕ) (v : View) →
      get_elem? s.views k ≡ some v → k ≡ j
  alone p s r j u e only k v at =
      let one = (r.sole j u e only).0 in let a = is_below s.views j u e in let b = is_below s.views k v at in omega arith

  -- what stands in the words when n was left in the word i
  one_left : (s : State S View) (i n : ℕ) (v : View) (found : Option ℕ) → ((k : ℕ) → k < length s.words → get_or s.words k 0 ≡ left_in k 0 v.reads) → (k : ℕ) →
      k < length (set s.words i n) → get_or (set s.words i n) k 0 ≡ left_in k 0 (with_read v i found n).reads
  one_left s i n v found own k lt =
      let size = length-set s.words i n in
      let more = left_more k 0 v.reads (record { word = i; found = found; left = n }) in
      dite (ℕ_discrete k i)
      (λ e. ap (λ (j : ℕ). get_or (set s.words i n) j 0) e ∙ get_or-set_same s.words i n 0 (omega arith)
      ∙ sym (more ∙ ap (λ (b : Bool). if b then n else left_in k 0 v.reads) (eq-eqb i k (sym e))))
      (λ ne. get_or-set_other s.words i k n 0 ne ∙ own k (omega arith)
      ∙ sym (more ∙ ap (λ (b : Bool). if b then n else left_in k 0 v.reads) (ne_eqb i k (λ e. ne (sym e)))))

  -- a step that leaves n in the word i, which is at most 3 where that word is an asked level
  left : (p : Program) (s : State S View) (r : Ruled p s) (i n id : ℕ) (cs : List (ℕ × S)) (v : View) (found : Option ℕ) → get_elem? s.views id ≡ some v
      → ((f : FunId) → f.0 < length p.functions → i ≡ number (Asked f) → n ≤ 3) → Ruled p (stepped s i n id cs (with_read v i found n) keeps)
  left p s r i n id cs v found at low =
      let w : View = with_read v i found n in
      record {
        sized = length-set s.words i n ∙ r.sized;
        asked = λ f lt. let old = r.asked f lt in let sized = r.sized in dite (ℕ_discrete (number (Asked f)) i)
            (λ e. let z : get_or (set s.words i n) (number (Asked f)) 0 ≡ n = ap (λ (j : ℕ). get_or (set s.words i n) j 0) e
            ∙ get_or-set_same s.words i n 0 (omega arith) in let l = low f lt (sym e) in omega arith)
            (λ ne. let z : get_or (set s.words i n) (number (Asked f)) 0
            ≡ get_or s.words (number (Asked f)) 0 = get_or-set_other s.words i (number (Asked f)) n 0 ne in omega arith);
        views = views_set p s r id w (r.views id v at);
        sole = λ j u e. ⊎_elim
            (λ (t : (j ≡ id) × (w ≡ u)). subst (λ (y : View). y.sole ≡ true → IsSoleIn (stepped s i n id cs w keeps) y) t.1
            (λ only. let own = r.sole id v at only in (length-set s.views id w ∙ own.0, one_left s i n v found own.1)))
            (λ (t : (j ≢ id) × (get_elem? s.views j ≡ some u)). λ only. absurd (t.0 (sym (alone p s r j u t.1 only id v at))))
            (at_set s.views id j w u e);
      }

  module _ (p : Program) (slots id i : ℕ) (me : Me S View) (live : me.0.live ≡ true) where
    finds_own : (s : State S View) (r : Ruled p s) → get_elem? s.views id ≡ some me.0 → me.0.sole ≡ true → i < word_count me.0.program →
        get_or s.words i 0 ≡ left_in i 0 me.0.reads
    finds_own s r at only lt =
        let within : i < word_count p = subst (λ (q : Program). i < word_count q) (r.views id me.0 at live) lt in
        let sized = r.sized in (r.sole id me.0 at only).1 i (omega arith)

    pub loads : Allows (Ruled p) slots id me i (λ n. n) (loaded (step slots i 0 0 none) me)
    loads s r _ at _ =
        let n : ℕ = get_or s.words i 0 in
        let low : (f : FunId) → f.0 < length p.functions → i ≡ number (Asked f) →
        n ≤ 3 = λ f lt e. subst (λ (j : ℕ). get_or s.words j 0 ≤ 3) (sym e) (r.asked f lt) in
        let own = r.views id me.0 at live in (
          with_read me.0 i (Some n) n,
          keeps,
          tt,
          left p s r i n id me.1 me.0 (Some n) at low,
          ((follows me.0 i (Some n) n, refl), (λ f lt e. low f (subst (λ (y : Program). f.0 < length y.functions) own lt) e), finds_own s r at),
        )

    pub stores : (c : ℕ) → IsApart p i → Allows (Ruled p) slots id me i (λ _. c) (λ _. stored (step slots i c 0 none) me c)
    stores c apart s r _ at _ =
        (with_read me.0 i None c, keeps, tt, left p s r i c id me.1 me.0 None at (λ f lt e. absurd (apart f lt e)), (follows me.0 i None c, refl))

    pub adds : (c : ℕ) → IsApart p i → Allows (Ruled p) slots id me i (λ n. (n + c) % 2 ^ 64) (added (step slots i c 0 none) me)
    adds c apart s r _ at _ =
        let n : ℕ = get_or s.words i 0 in
        let m : ℕ = (n + c) % 2 ^ 64 in (
          with_read me.0 i (Some n) m,
          keeps,
          tt,
          left p s r i m id me.1 me.0 (Some n) at
              (λ f lt e. absurd (apart f lt e)),
          ((follows me.0 i (Some n) m, refl), finds_own s r at),
        )

    pub raises : (c : ℕ) → c ≤ 3 → Allows (Ruled p) slots id me i (λ n. max n c) (raised (step slots i c 0 none) me)
    raises c low s r _ at _ =
        let n : ℕ = get_or s.words i 0 in (
          with_read me.0 i (Some n) (max n c),
          keeps,
          tt,
          left p s r i (max n c) id me.1 me.0 (Some n) at
              (λ f lt e. let z : n ≤ 3 = subst (λ (j : ℕ). get_or s.words j 0 ≤ 3) (sym e) (r.asked f lt) in omega arith),
          ((follows me.0 i (Some n) (max n c), refl), finds_own s r at),
        )

    pub exchanges : (old new : ℕ) → IsApart p i → Allows (Ruled p) slots id me i (λ n. either (eqb n old) new n) (exchanged (step slots i old new none) me)
    exchanges old new apart s r _ at _ =
        let n : ℕ = get_or s.words i 0 in
        let m : ℕ = either (eqb n old) new n in (
          with_read me.0 i (Some n) m,
          keeps,
          tt,
          left p s r i m id me.1 me.0 (Some n) at
              (λ f lt e. absurd (apart f lt e)),
          ((follows me.0 i (Some n) m, refl), finds_own s r at),
        )

  pub splits : (p : Program) (id : ℕ) (v : View) → Splits (Ruled {S = S} p) id v (shared v) (given v)
  splits p id v s r at = record {
    sized = r.sized;
    asked = r.asked;
    views = λ j u e. ⊎_elim
        (λ (a : get_elem? (set s.views id (shared v)) j ≡ some u). views_set p s r id (shared v) (r.views id v at) j u a)
        (λ (q : given v ≡ u). subst (λ (y : View). y.live ≡ true → y.program ≡ p) q (r.views id v at))
        (at_snoc (set s.views id (shared v)) (given v) u j e);
    sole = λ j u e only. ⊎_elim
        (λ (a : get_elem? (set s.views id (shared v)) j ≡ some u). ⊎_elim
        (λ (t : (j ≡ id) × (shared v ≡ u)). absurd (true≢false (sym only ∙ sym (ap (λ (y : View). y.sole) t.1))))
        (λ (t : (j ≢ id) × (get_elem? s.views j ≡ some u)). absurd (t.0 (sym (alone p s r j u t.1 only id v at))))
        (at_set s.views id j (shared v) u a))
        (λ (q : given v ≡ u). absurd (true≢false (sym only ∙ sym (ap (λ (y : View). y.sole) q))))
        (at_snoc (set s.views id (shared v)) (given v) u j e);
  }

  pub joins : (p : Program) (id : ℕ) (v : View) (other : ℕ) (w : View) → Joins (Ruled {S = S} p) id v other w (joined_view v w) spent_view
  joins p id v other w s r at ne there =
      let both : View = joined_view v w in
      record {
        sized = r.sized;
        asked = r.asked;
        views = λ j u e. ⊎_elim
            (λ (t : (j ≡ other) × (spent_view ≡ u)). subst (λ (y : View). y.live ≡ true → y.program ≡ p) t.1 (λ z. absurd (true≢false (sym z))))
            (λ (t : (j ≢ other) × (get_elem? (set s.views id both) j ≡ some u)). views_set p s r id both (r.views id v at) j u t.1)
            (at_set (set s.views id both) other j spent_view u e);
        sole = λ j u e only. ⊎_elim
            (λ (t : (j ≡ other) × (spent_view ≡ u)). absurd (true≢false (sym only ∙ sym (ap (λ (y : View). y.sole) t.1))))
            (λ (t : (j ≢ other) × (get_elem? (set s.views id both) j ≡ some u)). ⊎_elim
            (λ (q : (j ≡ id) × (both ≡ u)). ⊎_elim
            (λ (z : (other ≡ id) × (both ≡ w)). absurd (ne z.0))
            (λ (z : (other ≢ id) × (get_elem? s.views other ≡ some w)). absurd (z.0 (alone p s r id v at (ap (λ (y : View). y.sole) q.1 ∙ only) other w z.1)))
            (at_set s.views id other both w there))
            (λ (q : (j ≢ id) × (get_elem? s.views j ≡ some u)). absurd (q.0 (sym (alone p s r j u q.1 only id v at))))
            (at_set s.views id j both u t.1))
            (at_set (set s.views id both) other j spent_view u e);
      }
