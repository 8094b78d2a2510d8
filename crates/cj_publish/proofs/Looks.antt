-- Looking up and fetching.
use Rattle.std.proofs.Common.{◌≡◌, ◌≢◌, ◌⊎◌, ℕ, zero, suc, ◌+◌, ◌-◌, ◌<◌, ◌≤◌, ◌==◌, eqb, Bool, true, false, true≢false, List, [], ◌∷◌, ◌++◌, map, length, take, drop, set, get_or, max, Option, Some, None, refl, sym, ap, ◌∙◌, subst, inl, inr, ⊎_elim, arith, length-set, length-append, le_refl, eq-eqb, ne_eqb, get_or-set_other, get_or-set_same}
use Rattle.std.proofs.lemmas.List.{get_or-drop, get_or-take}
use mathlib.Core.Option.{none, some}
use lib.ListN.{get_elem?}
use Rattle.atomic_table.specs.Table.{State, Me, step, keeps, stepped, Allows}
use Rattle.cj_publish.specs.declared.view.Key.{Key}
use Rattle.cj_publish.specs.declared.view.Cell.{Cell}
use Rattle.cj_publish.specs.Cells.{number, IsCell}
use Rattle.cj_publish.specs.declared.view.Region.{Region}
use Rattle.cj_publish.specs.declared.view.View.{View}
use Rattle.cj_publish.specs.Words.{Has, piece, Rises}
use Rattle.cj_publish.specs.Rule.{FitsRegion, Grounded, FitsView, Ruled}
use Rattle.cj_publish.specs.Seen.{SeenAt, NotOlder}
use Rattle.cj_publish.specs.Views.{with_regions, with_region, with_look}
use Rattle.cj_publish.specs.Plays.{region, Sees, looked, take_in, fetched, confirmed, IsAt}
use Rattle.cj_publish.proofs.Numbers.{this_cell}
use Rattle.cj_publish.proofs.Lists.{has_either, each_append}
use Rattle.cj_publish.proofs.Keeps.{same_claim, Stays, stays_more, unmoved}
use Rattle.std.proofs.Common.{nat_lt, ◌&&◌, cond}
use Rattle.std.proofs.Math.Seq.{take-suc}
use Rattle.std.proofs.lemmas.Bool.Decides.{nat_tests}
use Rattle.cj_publish.proofs.Reliable.{long_enough, reliable, reliable_after}
use Rattle.cj_publish.proofs.Writes.{see, sees, not_above}

pub rises_snoc : (xs : List (Cell × ℕ)) (f : Cell) (o : ℕ) → Rises xs → ((y : Cell × ℕ) → Has xs y → y.0 ≡ f → y.1 ≤ o) → Rises (xs ++ (f, o) ∷ [])
rises_snoc [] f o r low = ((λ y h. absurd h), tt)
rises_snoc (x ∷ xs) f o r low = (
  (λ y h e. ⊎_elim (λ a. r.0 y a e) (λ b. ⊎_elim
      (λ (q : (f, o) ≡ y). let z = low x (inl refl) (sym e ∙ ap (λ (p : Cell × ℕ). p.0) (sym q)) in let s : y.1 ≡ o =
      ap (λ (p : Cell × ℕ). p.1) (sym q) in omega arith) (λ q. absurd q) b) (has_either xs ((f, o) ∷ []) y h)),
  rises_snoc xs f o r.1 (λ y h. low y (inr h)),
)

pub has_map : {A B : Type 0} (f : A → B) (xs : List A) (y : B) → Has (map f xs) y → (x : A) × Has xs x × (f x ≡ y)
has_map f [] y h = absurd h
has_map f (z ∷ xs) y h = ⊎_elim (λ e. (z, inl refl, e)) (λ t. let q = has_map f xs y t in (q.0, inr q.1, q.2)) h

pub map_has : {A B : Type 0} (f : A → B) (xs : List A) (x : A) → Has xs x → Has (map f xs) (f x)
map_has f [] x h = absurd h
map_has f (z ∷ xs) x h = ⊎_elim (λ e. inl (ap f e)) (λ t. inr (map_has f xs x t)) h

both_true : (a b c d : ℕ) → (eqb a b && nat_lt c d) ≡ true → (a ≡ b) × (c < d)
both_true a b c d e = (grind (arith, nat_tests), grind (arith, nat_tests))

both_false : (a b c d : ℕ) → (eqb a b && nat_lt c d) ≡ false → a ≡ b → c < d → ⊥
both_false a b c d e f g = grind (arith, nat_tests)

-- a region after a word at this place was found
pub taken_in : (at r : ℕ) (x : Region) (P : Region → Type 0) → ((at ≡ x.offset + length x.read → length x.read < x.len → ⊥) → P x)
    → (at ≡ x.offset + length x.read → length x.read < x.len → P (region x.cell x.offset x.len (x.read ++ r ∷ []))) → P (take_in at r x)
taken_in at r x P same more = cases (eqb at (x.offset + length x.read) && nat_lt (length x.read) x.len) refl
  where
    cases : (b : Bool) → (eqb at (x.offset + length x.read) && nat_lt (length x.read) x.len) ≡ b
        → P (cond b (region x.cell x.offset x.len (x.read ++ r ∷ [])) x)
    cases true e = let t = both_true at (x.offset + length x.read) (length x.read) x.len e in more t.0 t.1
    cases false e = same (both_false at (x.offset + length x.read) (length x.read) x.len e)

pub same_place : (at r : ℕ) (x : Region) → ((take_in at r x).cell ≡ x.cell) × ((take_in at r x).offset ≡ x.offset) × ((take_in at r x).len ≡ x.len)
same_place at r x = taken_in at r x (λ y. (y.cell ≡ x.cell) × (y.offset ≡ x.offset) × (y.len ≡ x.len)) (λ _. (refl, refl, refl)) (λ _ _. (refl, refl, refl))

module _ {S : Type 0} where
  looking : (k : Key) (s : State S View) (r : Ruled k s) (id : ℕ) (f : Cell) (cs : List (ℕ × S)) (v u : View) → IsCell k f
      → get_elem? s.views id ≡ some v → FitsView k r.known s.words u → u.lookups ≡ v.lookups → u.claim ≡ v.claim → Stays v u
      → Grounded u.regions (f, get_or s.words (number k f + 1) 0)
      → Ruled k (stepped s (number k f + 1) (get_or s.words (number k f + 1) 0) id cs (with_look u (f, get_or s.words (number k f + 1) 0)) keeps)
  looking k s r id f cs v u lt at h same claim stays ground =
      let n : ℕ = get_or s.words (number k f + 1) 0 in
      let w : View = with_look u (f, n) in
      unmoved k s r (number k f + 1) id cs v w at
      record {
        key = h.key;
        next = h.next;
        claim = h.claim;
        regions = h.regions;
        lookups = (
          rises_snoc u.lookups f n h.lookups.0 (λ y m e. not_above k s r f y.1 u h (subst (λ (z : Cell). Grounded u.regions (z, y.1)) e (h.lookups.1 y m))),
          each_append (Grounded u.regions) u.lookups ((f, n) ∷ []) h.lookups.1
              (λ y m. ⊎_elim (λ (e : (f, n) ≡ y). subst (Grounded u.regions) e ground) (λ z. absurd z) m),
        );
        joined = h.joined;
      }
      (same_claim v w claim) stays

  pub looks : (k : Key) (slots id : ℕ) (f : Cell) (i : ℕ) (me : Me S View) → IsAt k i f → me.0.live ≡ true
      → Allows (Ruled k) slots id me i (λ n. n) (looked (step slots i 0 0 none) me)
  looks k slots id f i me is_at live = subst (λ (j : ℕ). Allows (Ruled k) slots id me j (λ n. n) (looked (step slots j 0 0 none) me)) (sym is_at.word) here
    where
      here : Allows (Ruled k) slots id me (number k f + 1) (λ n. n) (looked (step slots (number k f + 1) 0 0 none) me)
      here s r _ at _ =
          let n : ℕ = get_or s.words (number k f + 1) 0 in
          let v : View = me.0 in
          let h = r.views id v at in
          let not_older : NotOlder v f n = (λ x m e. not_above k s r f x.offset v h (inr (x, m, e, refl))) in
          let at_f : IsAt k (number k f + 1) f = record { cell = is_at.cell; word = refl } in
          let one = λ (g : Cell) (z : IsAt v.key (number k f + 1) g). this_cell k v.key (number k f + 1) f g (h.key live) at_f z in
          ⊎_elim
          (λ (z : n ≡ 0). (
            with_look v (f, n),
            keeps,
            tt,
            looking k s r id f me.1 v v is_at.cell at h refl refl (stays_more v v refl refl (λ x m. m)) (inl z),
            (
              refl,
              λ g w. subst (λ (y : Cell). NotOlder v y n × ((u : View) × Sees v y n u × (with_look v (f, n) ≡ with_look u (y, n)))) (one g w)
                  (not_older, (v, inl (z, refl), refl)),
              reliable_after k s (number k f + 1) n id me.1 v (with_look v (f, n)) at live
                  (looking k s r id f me.1 v v is_at.cell at h refl refl (stays_more v v refl refl (λ x m. m)) (inl z)),
              λ g w sole some'. absurd (some' z),
            ),
          ))
          (λ (z : (l : ℕ) × (0 < n) × Has r.known (f, n, l)).
          let u : View = with_region v (region f n z.0 []) in
          let big = long_enough k s r (f, n, z.0) z.2 in
          let inside : n < v.key.size =
          (let a = big.0 in let b = big.2 in let c = r.sized in let q : n < k.size = omega arith in
          subst (λ (x : Key). n < x.size) (sym (h.key live)) q) in (
            with_look u (f, n),
            keeps,
            tt,
            looking k s r id f me.1 v u is_at.cell at (see k s r f z.0 v z.2 h) refl refl (stays_more v u refl refl (λ x m. inr m))
                (inr (region f n z.0 [], inl refl, refl, refl)),
            (
              refl,
              λ g w. subst (λ (y : Cell). NotOlder v y n
                  × ((u : View) × Sees v y n u × (with_look (with_region v (region f n z.0 [])) (f, n) ≡ with_look u (y, n)))) (one g w)
                  (not_older, (u, inr (z.0, z.1, inside, refl), refl)),
              reliable_after k s (number k f + 1) n id me.1 v (with_look u (f, n)) at live
                  (looking k s r id f me.1 v u is_at.cell at (see k s r f z.0 v z.2 h) refl refl (stays_more v u refl refl (λ x m. inr m))
                  (inr (region f n z.0 [], inl refl, refl, refl))),
              λ g w sole some'. subst (λ (y : Cell). SeenAt v y n) (one g w) ((r.alone id v at sole).seen (f, n, z.0) z.2),
            ),
          ))
          (sees k s r f v is_at.cell h)

  pub fetches : (k : Key) (slots id i : ℕ) (me : Me S View) → me.0.live ≡ true → Allows (Ruled k) slots id me i (λ n. n) (fetched (step slots i 0 0 none) me)
  fetches k slots id i me live s r _ at _ =
      let n : ℕ = get_or s.words i 0 in
      let v : View = me.0 in
      let h = r.views id v at in
      let rs : List Region = map (take_in i n) v.regions in
      let w : View = with_regions v rs in
      let ground = λ (x : Cell × ℕ) (g : Grounded v.regions x). let o : Grounded rs x =
      ⊎_elim (λ z. inl z) (λ (z : (y : Region) × Has v.regions y × (y.cell ≡ x.0) × (y.offset ≡ x.1)). let q = same_place i n z.0 in
      inr (take_in i n z.0, map_has (take_in i n) v.regions z.0 z.1, q.0 ∙ z.2, q.1 ∙ z.3)) g in o in
      let stays : Stays v w = λ sole. (
        sole,
        refl,
        λ f o y. let p =
            same_place i n y.0 in (take_in i n y.0, map_has (take_in i n) v.regions y.0 y.1, p.0 ∙ y.2, p.1 ∙ y.3),
      ) in
      let fit : FitsView k r.known s.words w = record {
        key = h.key;
        next = h.next;
        claim = h.claim;
        regions = λ y m.
            let x = has_map (take_in i n) v.regions y m in
            let q = h.regions x.0 x.1 in
            let big = long_enough k s r (x.0.cell, x.0.offset, x.0.len) q.is_known in
            subst (FitsRegion r.known s.words) x.2 (taken_in i n x.0 (FitsRegion r.known s.words) (λ _. q) (λ e l.
            let lim = big.0 in
            let len : length (x.0.read ++ n ∷ []) ≡ suc (length x.0.read) = omega (arith, length-append x.0.read (n ∷ [])) in
            record {
              is_known = q.is_known;
              room = omega arith;
              stands = ap (piece s.words x.0.offset) len
                  ∙ (take-suc (drop x.0.offset s.words) (length x.0.read) 0 (simp Rattle.std.proofs.Common.length-drop (omega arith))
                  ∙ (λ j. q.stands j ++ ((get_or-drop x.0.offset s.words (length x.0.read) 0 ∙ ap (λ (z : ℕ). get_or s.words z 0) (sym e)) j) ∷ []));
            }));
        lookups = (h.lookups.0, (λ x y. ground x (h.lookups.1 x y)));
        joined = λ l y. ((h.joined l y).0, (λ x z. ground x ((h.joined l y).1 x z)));
      } in (
        w,
        keeps,
        tt,
        unmoved k s r i id me.1 v w at fit (same_claim v w refl) stays,
        (
          refl,
          refl,
          λ x m. let q = h.regions x m in let big = long_enough k s r (x.cell, x.offset, x.len) q.is_known in (
            (λ e. let same : n ≡ get_or s.words x.offset 0 = ap (λ (z : ℕ). get_or s.words z 0) e in let two = big.2 in let is =
                big.3 in (
                  omega arith,
                  omega arith,
                  subst (λ (z : Key). x.offset + x.len ≤ z.size) (sym (h.key live)) (let c = big.0 in let d = r.sized in omega arith),
                )),
            (λ low high. ap (λ (l : List ℕ). get_or l (i - x.offset) 0) (sym q.stands)
                ∙ (get_or-take (length x.read) (drop x.offset s.words) (i - x.offset) 0 (omega arith)
                ∙ (get_or-drop x.offset s.words (i - x.offset) 0
                ∙ ap (λ (z : ℕ). get_or s.words z 0) (let z : x.offset + (i - x.offset) ≡ i = omega arith in z)))),
          ),
          reliable_after k s i n id me.1 v w at live (unmoved k s r i id me.1 v w at fit (same_claim v w refl) stays),
        ),
      )

  pub confirms : (k : Key) (slots id : ℕ) (me : Me S View) → me.0.live ≡ true → Allows (Ruled k) slots id me 0 (λ n. n) (confirmed (step slots 0 0 0 none) me)
  confirms k slots id me live s r _ at _ =
      let v : View = me.0 in
      let h = r.views id v at in (
        v,
        keeps,
        tt,
        unmoved k s r 0 id me.1 v v at h (same_claim v v refl) (stays_more v v refl refl (λ x m. m)),
        (refl, reliable k s r v live h (r.alone id v at)),
      )
