-- A new table, and seats cut and put together.
use Rattle.std.proofs.Common.{◌≡◌, ◌≢◌, ℕ, zero, suc, ◌+◌, ◌<◌, ◌≤◌, true, false, true≢false, List, [], ◌∷◌, ◌++◌, length, set, get_or, None, refl, sym, ap, ◌∙◌, subst, inl, inr, ⊎_elim, arith, length-set, get_or-set_other, get_or-set_same}
use Rattle.std.proofs.Common.{replicate}
use Rattle.std.proofs.lemmas.List.{length-replicate}
use mathlib.Core.Option.{some, some-ne-none, some-injective}
use lib.ListN.{get_elem?}
use Rattle.atomic_table.specs.Table.{State, Splits, Joins, opening}
use Rattle.atomic_table.proofs.Lists.{at_set, at_snoc}
use Rattle.cj_publish.specs.declared.view.Key.{Key}
use Rattle.cj_publish.specs.declared.view.Cell.{Cell}
use Rattle.cj_publish.specs.Cells.{cells, number}
use Rattle.cj_publish.specs.declared.view.Region.{Region}
use Rattle.cj_publish.specs.declared.view.View.{View}
use Rattle.cj_publish.specs.Words.{has_left, has_right}
use Rattle.cj_publish.specs.Rule.{FitsRegion, Grounded, FitsLooks, FitsView, ClaimsApart, Ruled}
use Rattle.cj_publish.specs.Views.{fresh, shared, given, spent_view, joined_view}
use Rattle.cj_publish.specs.Reliable.{IsReliable}
use Rattle.cj_publish.proofs.Lists.{at_inside, only, each_append, each_cons}
use Rattle.cj_publish.proofs.Keeps.{none_some, views_set, apart_set, alone_within, same_claim}

ground_left : (rs qs : List Region) (x : Cell × ℕ) → Grounded rs x → Grounded (rs ++ qs) x
ground_left rs qs x (inl z) = inl z
ground_left rs qs x (inr z) = inr (z.0, has_left rs qs z.0 z.1, z.2, z.3)

ground_right : (rs qs : List Region) (x : Cell × ℕ) → Grounded qs x → Grounded (rs ++ qs) x
ground_right rs qs x (inl z) = inl z
ground_right rs qs x (inr z) = inr (z.0, has_right rs qs z.0 z.1, z.2, z.3)

apart_snoc : (vs : List View) (w : View) → w.claim ≡ None → ClaimsApart vs → ClaimsApart (vs ++ w ∷ [])
apart_snoc vs w none' old i j v u c d ne ei ej ec ed =
    ⊎_elim
    (λ (a : get_elem? vs i ≡ some v). ⊎_elim (λ (b : get_elem? vs j ≡ some u). old i j v u c d ne a b ec ed)
    (λ (e : w ≡ u). absurd (none_some d (sym none' ∙ (ap (λ (y : View). y.claim) e ∙ ed)))) (at_snoc vs w u j ej))
    (λ (e : w ≡ v). absurd (none_some c (sym none' ∙ (ap (λ (y : View). y.claim) e ∙ ec))))
    (at_snoc vs w v i ei)

module _ {S : Type 0} where
  -- no view is sole where one is not
  none_sole : (k : Key) (s : State S View) (r : Ruled k s) (id : ℕ) (v w : View) → get_elem? s.views id ≡ some v → w.sole ≡ false
      → (j : ℕ) (u : View) → get_elem? (set s.views id w) j ≡ some u → u.sole ≡ true → ⊥
  none_sole k s r id v w at not j u e sole =
      ⊎_elim
      (λ (t : (j ≡ id) × (w ≡ u)). true≢false (sym sole ∙ (ap (λ (y : View). y.sole) (sym t.1) ∙ not)))
      (λ (t : (j ≢ id) × (get_elem? s.views j ≡ some u)). t.0 (only s.views id j v u at t.1 (r.alone j u t.1 sole).one))
      (at_set s.views id j w u e)

  pub splits : (k : Key) (id : ℕ) (v : View) → Splits (Ruled {S = S} k) id v (shared v) (given v)
  splits k id v s r at =
      let h = r.views id v at in
      let w : View = shared v in
      let fits : FitsView k r.known s.words w =
      record { key = h.key; next = h.next; claim = h.claim; regions = h.regions; lookups = h.lookups; joined = h.joined } in
      let apart = apart_set s.views id w r.apart (alone_within s.views id v w r.apart at (same_claim v w refl)) in
      record {
        known = r.known;
        sized = r.sized;
        front = r.front;
        back = r.back;
        regions = r.regions;
        newest = r.newest;
        views = λ j u e. ⊎_elim (λ a. views_set (FitsView k r.known s.words) s.views id w fits (λ i x _ z. r.views i x z) j u a)
            (λ (z : given v ≡ u). subst
            (FitsView k r.known s.words) z record {
              key = h.key;
              next = h.next;
              claim = λ c z. absurd (none_some c z);
              regions = h.regions;
              lookups = (tt, (λ x z. absurd z));
              joined = λ l z. absurd z;
            })
            (at_snoc (set s.views id w) (given v) u j e);
        apart = apart_snoc (set s.views id w) (given v) refl apart;
        alone = λ j u e sole. absurd (⊎_elim (λ a. none_sole k s r id v w at refl j u a sole)
            (λ (z : given v ≡ u). true≢false (sym sole ∙ ap (λ (y : View). y.sole) (sym z))) (at_snoc (set s.views id w) (given v) u j e));
      }

  pub joins : (k : Key) (id : ℕ) (v : View) (other : ℕ) (w : View) → Joins (Ruled {S = S} k) id v other w (joined_view v w) spent_view
  joins k id v other w s r at ne there =
      let both : View = joined_view v w in
      let vs : List View = set s.views id both in
      let h = r.views id v at in
      let two = λ (one : length s.views ≡ 1). ne
      (let a = at_inside s.views id v at in let b = at_inside vs other w there in let c = length-set s.views id both in let z : other ≡ id =
      omega arith in z) in
      let g = ⊎_elim (λ (t : (other ≡ id) × (both ≡ w)). absurd (ne t.0))
      (λ (t : (other ≢ id) × (get_elem? s.views other ≡ some w)). r.views other w t.1) (at_set s.views id other both w there) in
      let left = λ (l : List (Cell × ℕ)) (f : FitsLooks v.regions l). let o : FitsLooks (v.regions ++ w.regions) l =
      (f.0, (λ x m. ground_left v.regions w.regions x (f.1 x m))) in o in
      let right = λ (l : List (Cell × ℕ)) (f : FitsLooks w.regions l). let o : FitsLooks (v.regions ++ w.regions) l =
      (f.0, (λ x m. ground_right v.regions w.regions x (f.1 x m))) in o in
      record {
        known = r.known;
        sized = r.sized;
        front = r.front;
        back = r.back;
        regions = r.regions;
        newest = r.newest;
        views = views_set (FitsView k r.known s.words) vs other spent_view
            record {
              key = λ z. absurd (true≢false (sym z));
              next = omega arith;
              claim = λ c z. absurd (none_some c z);
              regions = λ x z. absurd z;
              lookups = (tt, (λ x z. absurd z));
              joined = λ l z. absurd z;
            }
            (λ j u _ e. views_set (FitsView k r.known s.words) s.views id both
            record {
              key = h.key;
              next = let a = h.next in let b = g.next in omega arith;
              claim = h.claim;
              regions = each_append (FitsRegion r.known s.words) v.regions w.regions h.regions g.regions;
              lookups = left v.lookups h.lookups;
              joined = each_append (FitsLooks (v.regions ++ w.regions)) v.joined (w.lookups ∷ w.joined) (λ l m. left l (h.joined l m))
                  (each_cons (FitsLooks (v.regions ++ w.regions)) w.lookups w.joined (right w.lookups g.lookups) (λ l m. right l (g.joined l m)));
            }
            (λ i x _ z. r.views i x z) j u e);
        apart = apart_set vs other spent_view
            (apart_set s.views id both r.apart (alone_within s.views id v both r.apart at (same_claim v both refl))) (λ c z. absurd (none_some c z));
        alone = λ j u e sole. absurd (⊎_elim
            (λ (t : (j ≡ other) × (spent_view ≡ u)). true≢false (sym sole ∙ ap (λ (y : View). y.sole) (sym t.1)))
            (λ (t : (j ≢ other) × (get_elem? vs j ≡ some u)). ⊎_elim
            (λ (z : (j ≡ id) × (both ≡ u)). two (r.alone id v at (ap (λ (y : View). y.sole) z.1 ∙ sole)).one)
            (λ (z : (j ≢ id) × (get_elem? s.views j ≡ some u)). two (r.alone j u z.1 sole).one)
            (at_set s.views id j both u t.1))
            (at_set vs other j spent_view u e));
      }

pub opens : (k : Key) (ws : List ℕ) → length ws ≡ k.size → get_or ws 0 0 ≡ cells k + 1 → cells k + 1 ≤ k.size → ((i : ℕ) → 0 < i → get_or ws i 0 ≡ 0)
    → Ruled {S = Unit {0}} k (opening ws [] (fresh k))
opens k ws sized first room rest = record {
  known = [];
  sized = sized;
  front = omega arith;
  back = omega arith;
  regions = λ g z. absurd z;
  newest = λ f is_cell. inl (rest (number k f + 1) (omega arith));
  views = one;
  apart = λ i j v u c d ne ei ej ec ed. absurd (none_some c (sym (alone i v ei) ∙ ec));
  alone = λ j v e sole. record { one = refl; front = first ∙ untaken j v e; seen = λ g z. absurd z; behind = λ c q g z. absurd z };
}
  where
    one : (j : ℕ) (v : View) → get_elem? (fresh k ∷ []) j ≡ some v → FitsView k [] ws v
    one zero v e = subst (FitsView k [] ws)
        (some-injective _ _ e) record {
          key = λ _. refl;
          next = omega arith;
          claim = λ c z. absurd (none_some c z);
          regions = λ x z. absurd z;
          lookups = (tt, (λ x z. absurd z));
          joined = λ l z. absurd z;
        }
    one (suc j) v e = absurd (some-ne-none v (sym e))

    alone : (j : ℕ) (v : View) → get_elem? (fresh k ∷ []) j ≡ some v → v.claim ≡ None
    alone zero v e = ap (λ (y : View). y.claim) (sym (some-injective _ _ e))
    alone (suc j) v e = absurd (some-ne-none v (sym e))

    untaken : (j : ℕ) (v : View) → get_elem? (fresh k ∷ []) j ≡ some v → cells k + 1 ≡ cells k + 1 + v.taken
    untaken zero v e = let z : 0 ≡ v.taken = ap (λ (y : View). y.taken) (some-injective _ _ e) in omega arith
    untaken (suc j) v e = absurd (some-ne-none v (sym e))

zeros : (n i : ℕ) → ◌≡◌ {A = ℕ} (get_or (replicate {A = ℕ} n 0) i 0) 0
zeros zero i = refl
zeros (suc n) zero = refl
zeros (suc n) (suc i) = zeros n i

pub fresh_words : (n x : ℕ) (items ws : List ℕ) → items ≡ replicate {A = ℕ} n 0 → ws ≡ set items 0 x → 0 < n → (length ws ≡ n) × (get_or ws 0 0 ≡ x)
    × ((i : ℕ) → 0 < i → get_or ws i 0 ≡ 0)
fresh_words n x items ws e d pos =
    let z : List ℕ = replicate {A = ℕ} n 0 in
    let is : ws ≡ set z 0 x = d ∙ ap (λ (l : List ℕ). set l 0 x) e in
    let len : length z ≡ n = length-replicate n 0 in (
      ap length is ∙ (length-set z 0 x ∙ len),
      ap (λ (l : List ℕ). get_or l 0 0) is ∙ get_or-set_same z 0 x 0 (omega arith),
      λ i h. ap (λ (l : List ℕ). get_or l i 0) is ∙ (get_or-set_other z 0 i x 0 (λ q. omega arith) ∙ zeros n i),
    )

-- the first seat has seen nothing, and one that was split off has seen what the other has
pub fresh_reliable : (k : Key) → IsReliable (fresh k)
fresh_reliable k = record {
  spelled = λ x z. absurd z;
  sound = record { agree = λ x y z. absurd z; lookups = (tt, (λ x z. absurd z)); joined = λ l z. absurd z };
  starts = λ _. omega arith;
}

pub given_reliable : (v : View) → IsReliable v → IsReliable (given v)
given_reliable v h = record {
  spelled = h.spelled;
  sound = record { agree = h.sound.agree; lookups = (tt, (λ x z. absurd z)); joined = λ l z. absurd z };
  starts = λ z. absurd (true≢false (sym z));
}

pub shared_reliable : (v : View) → IsReliable v → IsReliable (shared v)
shared_reliable v h = record {
  spelled = h.spelled;
  sound = record { agree = h.sound.agree; lookups = h.sound.lookups; joined = h.sound.joined };
  starts = λ z. absurd (true≢false (sym z));
}
