-- Each step keeps the rule.
use Rattle.std.proofs.Common.{◌≡◌, ◌≢◌, ◌⊎◌, ℕ, suc, ◌+◌, ◌-◌, ◌<◌, ◌≤◌, eqb, true, List, [], length, set, get_or, Some, None, refl, sym, ◌∙◌, subst, inl, inr, ⊎_elim, arith, length-set, le_refl, get_or-set_other, get_or-set_same}
use Rattle.std.proofs.lemmas.List.{set-get_or}
use mathlib.Core.Option.{none, some}
use lib.ListN.{get_elem?}
use prog.Atomic.{either}
use Rattle.atomic_table.specs.Table.{State, Me, step, keeps, stepped, Allows, Splits, Joins, opening}
use Rattle.atomic_table.proofs.Lists.{at_set, exchanged}
use Rattle.cj_publish.specs.declared.view.Key.{Key}
use Rattle.cj_publish.specs.declared.view.Cell.{Cell}
use Rattle.cj_publish.specs.Cells.{cells, number}
use Rattle.cj_publish.specs.declared.view.Claim.{Claim}
use Rattle.cj_publish.specs.declared.view.View.{View}
use Rattle.cj_publish.specs.Words.{Has, Each}
use Rattle.cj_publish.specs.Rule.{Place, Apart, FitsClaim, FitsView, ClaimsApart, IsAlone, AreAlone, Ruled, IsVersion}
use Rattle.cj_publish.specs.Seen.{IsAmong}
use Rattle.cj_publish.specs.Views.{with_next, claiming}
use Rattle.cj_publish.specs.Plays.{fronted, claimed}
use Rattle.cj_publish.proofs.Reliable.{reliable_after}
use Rattle.cj_publish.proofs.Lists.{only, Outside, piece_out}

pub shrink : (i o n m : ℕ) → m ≤ n → Outside i o n → Outside i o m
shrink i o n m le (inl h) = inl h
shrink i o n m le (inr h) = inr (omega arith)

pub other_way : (o n p m : ℕ) → Apart o n p m → Apart p m o n
other_way o n p m (inl h) = inr h
other_way o n p m (inr h) = inl h

pub none_some : (c : Claim) → None ≡ Some c → ⊥
none_some c e = cc

-- what a view knows stays true where a word outside of it changes
pub frame : (k : Key) (known more : List Place) (ws : List ℕ) (i x : ℕ) (u : View)
    → ((g : Place) → Has known g → Outside i g.1 g.2) → ((g : Place) → Has known g → Has more g) → get_or ws 0 0 ≤ get_or (set ws i x) 0 0
    → ((c : Claim) → u.claim ≡ Some c → Outside i c.offset c.len) → ((c : Claim) → u.claim ≡ Some c → Each (λ (g : Place). Apart c.offset c.len g.1 g.2) more)
    → FitsView k known ws u → FitsView k more (set ws i x) u
frame k known more ws i x u out sub front mine apart f = record {
  key = f.key;
  next = let h = f.next in omega arith;
  claim = λ c e. let h = f.claim c e in record {
    some = h.some;
    inside = h.inside;
    ends = let b = h.ends in omega arith;
    room = h.room;
    stands = piece_out ws i x c.offset (length c.written) (shrink i c.offset c.len (length c.written) h.room (mine c e)) ∙ h.stands;
    apart = apart c e;
  };
  regions = λ r m. let h = f.regions r m in record {
    is_known = sub (r.cell, r.offset, r.len) h.is_known;
    room = h.room;
    stands = piece_out ws i x r.offset (length r.read) (shrink i r.offset r.len (length r.read) h.room (out (r.cell, r.offset, r.len) h.is_known)) ∙ h.stands;
  };
  lookups = f.lookups;
  joined = f.joined;
}

pub views_set : (K : View → Type 0) (vs : List View) (id : ℕ) (w : View) → K w → ((j : ℕ) (u : View) → j ≢ id → get_elem? vs j ≡ some u → K u)
    → (j : ℕ) (u : View) → get_elem? (set vs id w) j ≡ some u → K u
views_set K vs id w mine others j u e =
    ⊎_elim (λ (t : (j ≡ id) × (w ≡ u)). subst K t.1 mine) (λ (t : (j ≢ id) × (get_elem? vs j ≡ some u)). others j u t.0 t.1) (at_set vs id j w u e)

-- a claim of this view, at the same place as one of the view before
abbrev pub Within : View → View → Type 0
Within v w = (c : Claim) → w.claim ≡ Some c → (d : Claim) × (v.claim ≡ Some d) × (d.offset ≡ c.offset) × (d.len ≡ c.len)

abbrev pub Alone : List View → ℕ → View → Type 0
Alone vs id w = (c : Claim) → w.claim ≡ Some c → (j : ℕ) (u : View) (d : Claim) → j ≢ id → get_elem? vs j ≡ some u → u.claim ≡ Some d
    → Apart c.offset c.len d.offset d.len

pub apart_set : (vs : List View) (id : ℕ) (w : View) → ClaimsApart vs → Alone vs id w → ClaimsApart (set vs id w)
apart_set vs id w old alone i j v u c d ne ei ej ec ed =
    ⊎_elim
    (λ (s : (i ≡ id) × (w ≡ v)). ⊎_elim
    (λ (t : (j ≡ id) × (w ≡ u)). absurd (ne (s.0 ∙ sym t.0)))
    (λ (t : (j ≢ id) × (get_elem? vs j ≡ some u)). alone c (subst (λ (y : View). y.claim ≡ Some c) (sym s.1) ec) j u d t.0 t.1 ed)
    (at_set vs id j w u ej))
    (λ (s : (i ≢ id) × (get_elem? vs i ≡ some v)). ⊎_elim
    (λ (t : (j ≡ id) × (w ≡ u)). other_way d.offset d.len c.offset c.len (alone d (subst (λ (y : View). y.claim ≡ Some d) (sym t.1) ed) i v c s.0 s.1 ec))
    (λ (t : (j ≢ id) × (get_elem? vs j ≡ some u)). old i j v u c d ne s.1 t.1 ec ed)
    (at_set vs id j w u ej))
    (at_set vs id i w v ei)

pub alone_within : (vs : List View) (id : ℕ) (v w : View) → ClaimsApart vs → get_elem? vs id ≡ some v → Within v w → Alone vs id w
alone_within vs id v w old at same c e j u d ne ej ed =
    let h = same c e in
    subst (λ (y : ℕ × ℕ). Apart y.0 y.1 d.offset d.len) (λ i. (h.2 i, h.3 i)) (old id j v u h.0 d (λ x. ne (sym x)) at ej h.1 ed)

pub same_claim : (v w : View) → w.claim ≡ v.claim → Within v w
same_claim v w e c h = (c, sym e ∙ h, refl, refl)

pub no_claim : (v w : View) → w.claim ≡ None → Within v w
no_claim v w e c h = absurd (none_some c (sym e ∙ h))

pub nexted : (k : Key) (known : List Place) (ws : List ℕ) (v : View) (n : ℕ) → n ≤ get_or ws 0 0 → FitsView k known ws v → FitsView k known ws (with_next v n)
nexted k known ws v n le f = record { key = f.key; next = le; claim = f.claim; regions = f.regions; lookups = f.lookups; joined = f.joined }

-- a view that is sole was so before, has claimed no more, and has seen what was seen
abbrev pub Stays : View → View → Type 0
Stays v w = w.sole ≡ true → (v.sole ≡ true) × (w.taken ≡ v.taken) × ((f : Cell) (o : ℕ) → IsAmong v.regions f o → IsAmong w.regions f o)

pub stays_more : (v w : View) → w.sole ≡ v.sole → w.taken ≡ v.taken → Each (Has w.regions) v.regions → Stays v w
stays_more v w sole taken more is = (sym sole ∙ is, taken, λ f o x. (x.0, more x.0 x.1, x.2, x.3))

pub stays_alone : (k : Key) (known : List Place) (ws : List ℕ) (n : ℕ) (v w : View) → w.taken ≡ v.taken
    → ((f : Cell) (o : ℕ) → IsAmong v.regions f o → IsAmong w.regions f o) → Within v w → IsAlone k known ws n v → IsAlone k known ws n w
stays_alone k known ws n v w taken more same h = record {
  one = h.one;
  front = let f = h.front in omega arith;
  seen = λ g m. more g.0 g.1 (h.seen g m);
  behind = λ c e g m. let d = same c e in subst (λ (o : ℕ). g.1 + g.2 ≤ o) d.2 (h.behind d.0 d.1 g m);
}

pub alone_set : (k : Key) (known more : List Place) (ws xs : List ℕ) (vs : List View) (id : ℕ) (v w : View) → get_elem? vs id ≡ some v
    → AreAlone k known ws vs
    → (w.sole ≡ true → (v.sole ≡ true) × (IsAlone k known ws (length vs) v → IsAlone k more xs (length vs) w)) → AreAlone k more xs (set vs id w)
alone_set k known more ws xs vs id v w at old keep j u e sole =
    ⊎_elim
    (λ (t : (j ≡ id) × (w ≡ u)).
    let q = keep (subst (λ (y : View). y.sole ≡ true) (sym t.1) sole) in
    subst (λ (y : ℕ). IsAlone k more xs y u) (sym (length-set vs id w)) (subst (IsAlone k more xs (length vs)) t.1 (q.1 (old id v at q.0))))
    (λ (t : (j ≢ id) × (get_elem? vs j ≡ some u)). absurd (t.0 (only vs id j v u at t.1 (old j u t.1 sole).one)))
    (at_set vs id j w u e)

module _ {S : Type 0} where
  -- a step that leaves the words
  pub unmoved : (k : Key) (s : State S View) (r : Ruled k s) (i id : ℕ) (cs : List (ℕ × S)) (v w : View) → get_elem? s.views id ≡ some v
      → FitsView k r.known s.words w → Within v w → Stays v w
      → Ruled k (stepped s i (get_or s.words i 0) id cs w keeps)
  unmoved k s r i id cs v w at fits same stays =
      subst (λ (ws : List ℕ). Ruled k record { words = ws; homes = s.homes; views = set s.views id w }) (sym (set-get_or s.words i 0)) record {
        known = r.known;
        sized = r.sized;
        front = r.front;
        back = r.back;
        regions = r.regions;
        newest = r.newest;
        views = views_set (FitsView k r.known s.words) s.views id w fits (λ j u _ e. r.views j u e);
        apart = apart_set s.views id w r.apart (alone_within s.views id v w r.apart at same);
        alone = alone_set k r.known r.known s.words s.words s.views id v w at r.alone
            (λ is. let q = stays is in (q.0, stays_alone k r.known s.words (length s.views) v w q.1 q.2 same));
      }

  pub fronts : (k : Key) (slots id : ℕ) (me : Me S View) → me.0.live ≡ true → me.0.key ≡ k
      → Allows (Ruled k) slots id me 0 (λ n. n) (fronted (step slots 0 0 0 none) me)
  fronts k slots id me live key s r _ at _ =
      let n : ℕ = get_or s.words 0 0 in
      let f = r.views id me.0 at in (
        with_next me.0 n,
        keeps,
        tt,
        unmoved k s r 0 id me.1 me.0 (with_next me.0 n) at (nexted k r.known s.words me.0 n (le_refl n) f) (same_claim me.0 (with_next me.0 n) refl)
            (stays_more me.0 (with_next me.0 n) refl refl (λ x h. h)),
        (
          refl,
          refl,
          f.next,
          subst (λ (q : Key). cells q < n) (sym key) r.front,
          subst (λ (q : Key). n ≤ q.size) (sym key) r.back,
          reliable_after k s 0 n id me.1 me.0 (with_next me.0 n) at live
              (unmoved k s r 0 id me.1 me.0 (with_next me.0 n) at (nexted k r.known s.words me.0 n (le_refl n) f)
              (same_claim me.0 (with_next me.0 n) refl) (stays_more me.0 (with_next me.0 n) refl refl (λ x h. h))),
        ),
      )

  -- the first unclaimed word moves on, and a view claims the words between
  grown : (k : Key) (s : State S View) (r : Ruled k s) (id old len : ℕ) (cs : List (ℕ × S)) (v : View) → get_elem? s.views id ≡ some v
      → get_or s.words 0 0 ≡ old → 0 < len → old + len ≤ k.size
      → Ruled k (stepped s 0 (old + len) id cs (claiming v old len) keeps)
  grown k s r id old len cs v at is pos room =
      let front = r.front in
      let back = r.back in
      let sized = r.sized in
      let zero' : get_or (set s.words 0 (old + len)) 0 0 ≡ old + len = get_or-set_same s.words 0 (old + len) 0 (omega arith) in
      let more : get_or s.words 0 0 ≤ get_or (set s.words 0 (old + len)) 0 0 = omega arith in
      let word = λ (j : ℕ). get_or-set_other s.words 0 (suc j) (old + len) 0 (λ e. omega arith) in
      let out = λ (g : Place) (m : Has r.known g). let h = (r.regions g m).inside in let o : Outside 0 g.1 g.2 = inl (omega arith) in o in
      let below = λ (g : Place) (m : Has r.known g). let h = (r.regions g m).ends in let o : g.1 + g.2 ≤ old = omega arith in o in
      let still = λ (u : View) (f : FitsView k r.known s.words u). frame k r.known r.known s.words 0 (old + len) u out (λ g m. m) more
      (λ c e. let h = (f.claim c e).inside in inl (omega arith)) (λ c e. (f.claim c e).apart) f in
      let old_fits = still v (r.views id v at) in
      record {
        known = r.known;
        sized = length-set s.words 0 (old + len) ∙ sized;
        front = omega arith;
        back = omega arith;
        regions = λ g m. let h = r.regions g m in record {
          cell = h.cell;
          inside = h.inside;
          ends = let e = h.ends in omega arith;
          spells = subst (IsVersion k g.0) (sym (piece_out s.words 0 (old + len) g.1 g.2 (out g m))) h.spells;
          newest = let e = h.newest in let q : get_or (set s.words 0 (old + len)) (number k g.0 + 1) 0 ≡ get_or s.words (number k g.0 + 1) 0 =
              get_or-set_other s.words 0 (number k g.0 + 1) (old + len) 0 (λ z. omega arith) in omega arith;
        };
        newest = λ f is_cell. let q : get_or (set s.words 0 (old + len)) (number k f + 1) 0 ≡ get_or s.words (number k f + 1) 0 =
            get_or-set_other s.words 0 (number k f + 1) (old + len) 0 (λ z. omega arith) in
            subst (λ (y : ℕ). (y ≡ 0) ⊎ ((n : ℕ) × Has r.known (f, y, n))) (sym q) (r.newest f is_cell);
        views = views_set (FitsView k r.known (set s.words 0 (old + len))) s.views id (claiming v old len)
            record {
              key = old_fits.key;
              next = omega arith;
              claim = λ c e. subst (FitsClaim k r.known (set s.words 0 (old + len)))
                  (let q : record { offset = old; len = len; written = [] } ≡ c = cc in q) record {
                    some = pos;
                    inside = omega arith;
                    ends = omega arith;
                    room = omega arith;
                    stands = refl;
                    apart = λ g m. inr (below g m);
                  };
              regions = old_fits.regions;
              lookups = old_fits.lookups;
              joined = old_fits.joined;
            }
            (λ j u _ e. still u (r.views j u e));
        apart = apart_set s.views id (claiming v old len) r.apart
            (λ c e j u d ne ej ed. let h = ((r.views j u ej).claim d ed).ends in let q : record { offset = old; len = len; written = [] } ≡ c = cc in
            subst (λ (y : Claim). Apart y.offset y.len d.offset d.len) q (inr (omega arith)));
        alone = alone_set k r.known r.known s.words (set s.words 0 (old + len)) s.views id v (claiming v old len) at r.alone
            (λ sole. (
              sole,
              λ h. record {
                one = h.one;
                front = let f = h.front in omega arith;
                seen = h.seen;
                behind = λ c e g m. let q : record { offset = old; len = len; written = [] } ≡ c = cc in
                    subst (λ (y : Claim). g.1 + g.2 ≤ y.offset) q (below g m);
              },
            ));
      }

  pub takes : (k : Key) (slots id : ℕ) (me : Me S View) (old len : ℕ) → me.0.live ≡ true → me.0.key ≡ k → me.0.next ≡ old → 0 < len → old + len ≤ k.size
      → Allows (Ruled k) slots id me 0 (λ n. either (eqb n old) (old + len) n) (claimed (step slots 0 old (old + len) none) me)
  takes k slots id me old len live key seen pos room s r _ at _ =
      let n : ℕ = get_or s.words 0 0 in
      let f = r.views id me.0 at in
      let l : ℕ = (old + len) - old in
      let l_is : l ≡ len = omega arith in
      exchanged n old (old + len)
      (λ (x : ℕ). (w : View) × (a : Rattle.atomic_table.specs.Table.Act S) × Rattle.atomic_table.specs.Table.Valid s.homes me.1 a
      × Ruled k (stepped s 0 x id me.1 w a) × claimed (step slots 0 old (old + len) none) me n (w, Rattle.atomic_table.specs.Table.carried_after me.1 a))
      (λ e. (
        claiming me.0 old l,
        keeps,
        tt,
        subst (λ (y : ℕ). Ruled k (stepped s 0 (old + len) id me.1 (claiming me.0 old y) keeps)) (sym l_is) (grown k s r id old len me.1 me.0 at e pos room),
        (
          refl,
          (λ _. refl),
          (λ ne. absurd (ne e)),
          reliable_after k s 0 (old + len) id me.1 me.0 (claiming me.0 old l) at live
              (subst (λ (y : ℕ). Ruled k (stepped s 0 (old + len) id me.1 (claiming me.0 old y) keeps)) (sym l_is)
              (grown k s r id old len me.1 me.0 at e pos room)),
        ),
      ))
      (λ ne. (
        with_next me.0 n,
        keeps,
        tt,
        unmoved k s r 0 id me.1 me.0 (with_next me.0 n) at (nexted k r.known s.words me.0 n (le_refl n) f) (same_claim me.0 (with_next me.0 n) refl)
            (stays_more me.0 (with_next me.0 n) refl refl (λ x h. h)),
        (
          refl,
          (λ e. absurd (ne e)),
          (λ _. (refl, (let h = f.next in let q : me.0.next < n = omega arith in q), subst (λ (q : Key). n ≤ q.size) (sym key) r.back)),
          reliable_after k s 0 n id me.1 me.0 (with_next me.0 n) at live
              (unmoved k s r 0 id me.1 me.0 (with_next me.0 n) at (nexted k r.known s.words me.0 n (le_refl n) f)
              (same_claim me.0 (with_next me.0 n) refl) (stays_more me.0 (with_next me.0 n) refl refl (λ x h. h))),
        ),
      ))
