-- Writing a claim, and making it current.
use Rattle.std.proofs.Common.{◌≡◌, ◌≢◌, ◌⊎◌, ℕ, ◌+◌, ◌<◌, ◌≤◌, eqb, true, List, [], ◌∷◌, ◌++◌, length, set, get_or, Some, None, refl, sym, ap, ◌∙◌, subst, inl, inr, ⊎_elim, arith, length-set, length-append, get_or-set_other, get_or-set_same}
use mathlib.Core.Option.{none, some}
use mathlib.Core.Logic.{dite}
use native.Mathlib.Decide.{ℕ_discrete, dec_lt}
use lib.ListN.{get_elem?}
use prog.Atomic.{either}
use Rattle.atomic_table.specs.Table.{State, Me, Act, Valid, carried_after, step, keeps, stepped, Allows}
use Rattle.atomic_table.proofs.Lists.{exchanged}
use Rattle.cj_publish.specs.declared.view.Key.{Key}
use Rattle.cj_publish.specs.declared.view.Cell.{Cell}
use Rattle.cj_publish.specs.Cells.{number, IsCell}
use Rattle.cj_publish.specs.declared.view.Claim.{Claim}
use Rattle.cj_publish.specs.declared.view.View.{View}
use Rattle.cj_publish.specs.Words.{Has, piece}
use Rattle.cj_publish.specs.Rule.{Place, IsRegion, Apart, FitsClaim, FitsRegion, Grounded, FitsView, Ruled, IsVersion}
use Rattle.cj_publish.specs.Seen.{IsAmong}
use Rattle.cj_publish.specs.Views.{with_claim, ended, with_region}
use Rattle.cj_publish.specs.declared.publishing.Published.{Published}
use Rattle.cj_publish.specs.declared.publishing.Published.TheVariants as how
use Rattle.cj_publish.specs.Plays.{region, Finds, neared, published, wrote, IsAt}
use Rattle.cj_publish.proofs.Numbers.{cell_below, one_cell, this_cell}
use Rattle.cj_publish.proofs.Reliable.{long_enough, reliable_after}
use Rattle.cj_publish.proofs.Lists.{each_cons, Outside, piece_out, piece_more}
use Rattle.cj_publish.proofs.Keeps.{shrink, none_some, frame, views_set, apart_set, alone_within, same_claim, no_claim, stays_more, alone_set, unmoved}

the_claim : (v : View) (c d : Claim) → v.claim ≡ Some c → v.claim ≡ Some d → c ≡ d
the_claim v c d e f = cc

unclaim : (k : Key) (known : List Place) (ws : List ℕ) (v : View) → FitsView k known ws v → (f : Cell) (outcome : Published)
    → FitsView k known ws (ended v f outcome)
unclaim k known ws v h f outcome = record {
  key = h.key;
  next = h.next;
  claim = λ c e. absurd (none_some c e);
  regions = h.regions;
  lookups = h.lookups;
  joined = h.joined;
}

-- an offset that was seen for f is at most f's word
pub not_above : {S : Type 0} (k : Key) (s : State S View) (r : Ruled k s) (f : Cell) (old : ℕ) (v : View) → FitsView k r.known s.words v
    → Grounded v.regions (f, old) → old ≤ get_or s.words (number k f + 1) 0
not_above k s r f old v h (inl z) = omega arith
not_above k s r f old v h (inr z) = let q = (r.regions _ (h.regions z.0 z.1).is_known).newest in
    let e : get_or s.words (number k z.0.cell + 1) 0 ≡ get_or s.words (number k f + 1) 0 =
    ap (λ (y : Cell). get_or s.words (number k y + 1) 0) z.2 in let d = z.3 in omega arith

module _ {S : Type 0} where
  -- a store within the claim of the view v
  stored : (k : Key) (s : State S View) (r : Ruled k s) (id : ℕ) (cs : List (ℕ × S)) (v : View) (c : Claim) (x : ℕ) → get_elem? s.views id ≡ some v
      → v.claim ≡ Some c → length c.written < c.len
      → Ruled k (stepped s (c.offset + length c.written) x id cs
      (with_claim v (Some record { offset = c.offset; len = c.len; written = c.written ++ x ∷ [] })) keeps)
  stored k s r id cs v c x at is room =
      let h = (r.views id v at).claim c is in
      let i : ℕ = c.offset + length c.written in
      let ws : List ℕ = set s.words i x in
      let c' : Claim = record { offset = c.offset; len = c.len; written = c.written ++ x ∷ [] } in
      let w : View = with_claim v (Some c') in
      let inside = h.inside in
      let ends = h.ends in
      let sized = r.sized in
      let back = r.back in
      let same0 : get_or ws 0 0 ≡ get_or s.words 0 0 = get_or-set_other s.words i 0 x 0 (λ z. omega arith) in
      let out = λ (g : Place) (m : Has r.known g). let o : Outside i g.1 g.2 =
      ⊎_elim (λ (a : c.offset + c.len ≤ g.1). inl (omega arith)) (λ (b : g.1 + g.2 ≤ c.offset). inr (omega arith)) (h.apart g m) in o in
      let still = λ (u : View) (f : FitsView k r.known s.words u)
      (away : (d : Claim) → u.claim ≡ Some d → Outside i d.offset d.len). frame k r.known r.known s.words i x u out (λ g m. m) (omega arith) away
      (λ d e. (f.claim d e).apart) f in
      let f = r.views id v at in
      record {
        known = r.known;
        sized = length-set s.words i x ∙ sized;
        front = let q = r.front in omega arith;
        back = omega arith;
        regions = λ g m. let q = r.regions g m in record {
          cell = q.cell;
          inside = q.inside;
          ends = let e = q.ends in omega arith;
          spells = subst (IsVersion k g.0) (sym (piece_out s.words i x g.1 g.2 (out g m))) q.spells;
          newest = let e = q.newest in let lt = cell_below k g.0 q.cell in
              let z : get_or ws (number k g.0 + 1) 0 ≡ get_or s.words (number k g.0 + 1) 0 =
              get_or-set_other s.words i (number k g.0 + 1) x 0 (λ z. omega arith) in omega arith;
        };
        newest = λ f is_cell. let lt = cell_below k f is_cell in let q : get_or ws (number k f + 1) 0 ≡ get_or s.words (number k f + 1) 0 =
            get_or-set_other s.words i (number k f + 1) x 0 (λ z. omega arith) in
            subst (λ (y : ℕ). (y ≡ 0) ⊎ ((n : ℕ) × Has r.known (f, y, n))) (sym q) (r.newest f is_cell);
        views = views_set (FitsView k r.known ws) s.views id w
            record {
              key = f.key;
              next = let e = f.next in omega arith;
              claim = λ d e. subst (FitsClaim k r.known ws) (let q : c' ≡ d = cc in q) record {
                some = h.some;
                inside = inside;
                ends = omega arith;
                room = omega (arith, length-append c.written (x ∷ []));
                stands =
                    ap (λ (n : ℕ). piece ws c.offset n)
                    (let q : length (c.written ++ x ∷ []) ≡ length c.written + 1 = omega (arith, length-append c.written (x ∷ [])) in q)
                    ∙ (piece_more s.words c.offset (length c.written) x (omega arith) ∙ ap (λ (l : List ℕ). l ++ x ∷ []) h.stands);
                apart = h.apart;
              };
              regions = λ q m. let z = f.regions q m in record {
                is_known = z.is_known;
                room = z.room;
                stands = piece_out s.words i x q.offset (length q.read)
                    (shrink i q.offset q.len (length q.read) z.room (out (q.cell, q.offset, q.len) z.is_known)) ∙ z.stands;
              };
              lookups = f.lookups;
              joined = f.joined;
            }
            (λ j u ne e. still u (r.views j u e) (λ d ed. let z = r.apart id j v u c d (λ y. ne (sym y)) at e is ed in
            ⊎_elim (λ (a : c.offset + c.len ≤ d.offset). let o : Outside i d.offset d.len = inl (omega arith) in o)
            (λ (b : d.offset + d.len ≤ c.offset). let o : Outside i d.offset d.len = inr (omega arith) in o) z));
        apart = apart_set s.views id w r.apart
            (alone_within s.views id v w r.apart at (λ d e. let q : c' ≡ d = cc in (c, is, ap (λ (y : Claim). y.offset) q, ap (λ (y : Claim). y.len) q)));
        alone = alone_set k r.known r.known s.words ws s.views id v w at r.alone
            (λ sole. (
              sole,
              λ q. record {
                one = q.one;
                front = same0 ∙ q.front;
                seen = q.seen;
                behind = λ d e g m. let z : c' ≡ d = cc in subst (λ (y : Claim). g.1 + g.2 ≤ y.offset) z (q.behind c is g m);
              },
            ));
      }

  pub writes : (k : Key) (slots id i x : ℕ) (me : Me S View) (c : Claim) → me.0.live ≡ true → me.0.claim ≡ Some c → i ≡ c.offset + length c.written
      → length c.written < c.len
      → Allows (Ruled k) slots id me i (λ _. x) (λ _. wrote (step slots i x 0 none) me x)
  writes k slots id i x me c live is at_is room s r _ at _ =
      let w : View = with_claim me.0 (Some record { offset = c.offset; len = c.len; written = c.written ++ x ∷ [] }) in (
        w,
        keeps,
        tt,
        subst (λ (j : ℕ). Ruled k (stepped s j x id me.1 w keeps)) (sym at_is) (stored k s r id me.1 me.0 c x at is room),
        (
          refl,
          λ d e. ap (λ (y : Claim). with_claim me.0 (Some record { offset = y.offset; len = y.len; written = y.written ++ x ∷ [] }))
              (the_claim me.0 c d is e),
          reliable_after k s (c.offset + length c.written) x id me.1 me.0 w at live (stored k s r id me.1 me.0 c x at is room),
        ),
      )

  -- a region of f that stands in the word is seen
  pub see : (k : Key) (s : State S View) (r : Ruled k s) (f : Cell) (n : ℕ) (v : View) → Has r.known (f, get_or s.words (number k f + 1) 0, n)
      → FitsView k r.known s.words v → FitsView k r.known s.words (with_region v (region f (get_or s.words (number k f + 1) 0) n []))
  see k s r f n v m h = record {
    key = h.key;
    next = h.next;
    claim = h.claim;
    regions = each_cons (FitsRegion r.known s.words)
        (region f (get_or s.words (number k f + 1) 0) n []) v.regions record { is_known = m; room = omega arith; stands = refl } h.regions;
    lookups = (h.lookups.0, (λ x y. ground x (h.lookups.1 x y)));
    joined = λ l y. ((h.joined l y).0, (λ x z. ground x ((h.joined l y).1 x z)));
  }
    where
      ground : (x : Cell × ℕ) → Grounded v.regions x → Grounded (with_region v (region f (get_or s.words (number k f + 1) 0) n [])).regions x
      ground x (inl z) = inl z
      ground x (inr z) = inr (z.0, inr z.1, z.2, z.3)

  -- what is seen at f's word
  pub sees : (k : Key) (s : State S View) (r : Ruled k s) (f : Cell) (v : View) → IsCell k f → FitsView k r.known s.words v
      → ((get_or s.words (number k f + 1) 0 ≡ 0)
      ⊎ ((n : ℕ) × (0 < get_or s.words (number k f + 1) 0) × Has r.known (f, get_or s.words (number k f + 1) 0, n)))
  sees k s r f v lt h = ⊎_elim (λ z. inl z)
      (λ (z : (n : ℕ) × Has r.known (f, get_or s.words (number k f + 1) 0, n)). let q =
      (r.regions (f, get_or s.words (number k f + 1) 0, z.0) z.1).inside in inr (z.0, omega arith, z.1)) (r.newest f lt)

  -- the new view of a seat that publishes, and has found another value than the one that it replaces
  nears : (k : Key) (s : State S View) (r : Ruled k s) (id : ℕ) (f : Cell) (cs : List (ℕ × S)) (v : View) (c : Claim) → IsCell k f → v.live ≡ true
      → get_elem? s.views id ≡ some v → v.claim ≡ Some c
      → (w : View) × Ruled k (stepped s (number k f + 1) (get_or s.words (number k f + 1) 0) id cs w keeps)
      × Finds v c.offset f (get_or s.words (number k f + 1) 0) w × (w.live ≡ true)
  nears k s r id f cs v c lt live at is =
      let o : ℕ = get_or s.words (number k f + 1) 0 in
      let h = r.views id v at in
      let hc = h.claim c is in
      ⊎_elim
      (λ (z : o ≡ 0). (
        v,
        unmoved k s r (number k f + 1) id cs v v at h (same_claim v v refl) (stays_more v v refl refl (λ x m. m)),
        (
          (λ _. inl (z, refl)),
          (λ le. let a = hc.inside in absurd (omega arith)),
          (λ _. let a = hc.inside in let q : o < c.offset = omega arith in q),
          (λ _ some. absurd (some z)),
        ),
        live,
      ))
      (λ (z : (n : ℕ) × (0 < o) × Has r.known (f, o, n)).
      let seen : View = with_region v (region f o z.0 []) in
      let fits = see k s r f z.0 v z.2 h in
      let g = r.regions (f, o, z.0) z.2 in
      let big = long_enough k s r (f, o, z.0) z.2 in
      let long : 2 ≤ z.0 = big.2 in
      let inside : o < v.key.size = (let a = big.0 in let d = r.sized in let q : o < k.size = omega arith in
      subst (λ (x : Key). o < x.size) (sym (h.key live)) q) in
      let ne : o ≢ c.offset = (λ e. ⊎_elim (λ (a : c.offset + c.len ≤ o). let p = hc.some in absurd (omega arith))
      (λ (b : o + z.0 ≤ c.offset). absurd (omega arith)) (hc.apart (f, o, z.0) z.2)) in
      let alone = λ (sole : v.sole ≡ true). r.alone id v at sole in
      let before = λ (sole : v.sole ≡ true). let b = (alone sole).behind c is (f, o, z.0) z.2 in let q : o < c.offset = omega arith in q in
      let known = λ (sole : v.sole ≡ true) (some : ¬ (o ≡ 0)). (alone sole).seen (f, o, z.0) z.2 in
      dite (dec_lt o c.offset)
      (λ low. (
        seen,
        unmoved k s r (number k f + 1) id cs v seen at fits (same_claim v seen refl) (stays_more v seen refl refl (λ x m. inr m)),
        ((λ _. inr (z.0, z.1, inside, refl)), (λ le. absurd (omega arith)), before, known),
        live,
      ))
      (λ high.
      let late : View = ended seen f (how.Older c.offset o) in (
        late,
        unmoved k s r (number k f + 1) id cs v late at (unclaim k r.known s.words seen fits f (how.Older c.offset o)) (no_claim v late refl)
            (stays_more v late refl refl (λ x m. inr m)),
        ((λ l. absurd (high l)), (λ le. (let q : c.offset < o = omega arith in q, inside, (z.0, refl))), before, known),
        live,
      )))
      (sees k s r f v lt h)

  pub neared_ok : (k : Key) (slots id : ℕ) (f : Cell) (i : ℕ) (me : Me S View) (c : Claim) → IsAt k i f → me.0.live ≡ true → me.0.claim ≡ Some c
      → Allows (Ruled k) slots id me i (λ n. n) (neared (step slots i 0 0 none) me)
  neared_ok k slots id f i me c is_at live is s r _ at _ =
      let h = nears k s r id f me.1 me.0 c is_at.cell live at is in
      let key = (r.views id me.0 at).key live in (
        h.0,
        keeps,
        tt,
        subst (λ (j : ℕ). Ruled k (stepped s j (get_or s.words j 0) id me.1 h.0 keeps)) (sym is_at.word) h.1,
        (
          refl,
          λ d g e z. subst (λ (y : ℕ × Cell × ℕ). Finds me.0 y.0 y.1 y.2 h.0)
              (λ j. (
                ap (λ (y : Claim). y.offset) (the_claim me.0 c d is e) j,
                this_cell k me.0.key i f g key is_at z j,
                get_or s.words (sym is_at.word j) 0,
              )) h.2,
          reliable_after k s (number k f + 1) (get_or s.words (number k f + 1) 0) id me.1 me.0 h.0 at h.3 h.1,
        ),
      )

  -- the claim becomes the newest region of f
  made : (k : Key) (s : State S View) (r : Ruled k s) (id : ℕ) (f : Cell) (cs : List (ℕ × S)) (v : View) (c : Claim) → IsCell k f
      → get_elem? s.views id ≡ some v → v.claim ≡ Some c
      → IsVersion k f c.written → length c.written ≡ c.len → get_or s.words (number k f + 1) 0 < c.offset
      → Ruled k (stepped s (number k f + 1) c.offset id cs
      (ended (with_region v (region f c.offset c.len c.written)) f (how.Published c.offset)) keeps)
  made k s r id f cs v c lt at is spells whole newer =
      let h = r.views id v at in
      let hc = h.claim c is in
      let i : ℕ = number k f + 1 in
      let ws : List ℕ = set s.words i c.offset in
      let g0 : Place = (f, c.offset, c.len) in
      let more : List Place = g0 ∷ r.known in
      let w : View = ended (with_region v (region f c.offset c.len c.written)) f (how.Published c.offset) in
      let inside = hc.inside in
      let flt = cell_below k f lt in
      let ends = hc.ends in
      let sized = r.sized in
      let front = r.front in
      let back = r.back in
      let same0 : get_or ws 0 0 ≡ get_or s.words 0 0 = get_or-set_other s.words i 0 c.offset 0 (λ z. omega arith) in
      let here : get_or ws (number k f + 1) 0 ≡ c.offset = get_or-set_same s.words i c.offset 0 (omega arith) in
      let out = λ (g : Place) (m : Has r.known g). let q = (r.regions g m).inside in let o : Outside i g.1 g.2 = inl (omega arith) in o in
      let claim_piece : piece ws c.offset c.len ≡ c.written =
      piece_out s.words i c.offset c.offset c.len (inl (omega arith)) ∙ (ap (piece s.words c.offset) (sym whole) ∙ hc.stands) in
      let others = λ (j : ℕ) (u : View) (ne : j ≢ id) (e : get_elem? s.views j ≡ some u). let q = r.views j u e in
      frame k r.known more s.words i c.offset u out (λ g m. inr m) (omega arith) (λ d ed. let z = (q.claim d ed).inside in inl (omega arith))
      (λ d ed. each_cons (λ (g : Place). Apart d.offset d.len g.1 g.2) g0 r.known (r.apart j id u v d c ne e at ed is) (q.claim d ed).apart) q in
      let mine = frame k r.known more s.words i c.offset (ended v f (how.Published c.offset)) out (λ g m. inr m) (omega arith) (λ d ed. absurd (none_some d ed))
      (λ d ed. absurd (none_some d ed)) (unclaim k r.known s.words v h f (how.Published c.offset)) in
      record {
        known = more;
        sized = length-set s.words i c.offset ∙ sized;
        front = omega arith;
        back = omega arith;
        regions = each_cons (IsRegion k ws) g0 r.known
            record { cell = lt; inside = inside; ends = omega arith; spells = subst (IsVersion k f) (sym claim_piece) spells; newest = omega arith }
            (λ g m. let q = r.regions g m in record {
              cell = q.cell;
              inside = q.inside;
              ends = let e = q.ends in omega arith;
              spells = subst (IsVersion k g.0) (sym (piece_out s.words i c.offset g.1 g.2 (out g m))) q.spells;
              newest = let e = q.newest in let glt = cell_below k g.0 q.cell in dite (ℕ_discrete (number k g.0) (number k f))
                  (λ z. let a : get_or s.words (number k g.0 + 1) 0 ≡ get_or s.words (number k f + 1) 0 =
                  ap (λ (y : ℕ). get_or s.words (y + 1) 0) z in let b : get_or ws (number k g.0 + 1) 0 ≡ c.offset =
                  ap (λ (y : ℕ). get_or ws (y + 1) 0) z ∙ here in omega arith)
                  (λ z. let b : get_or ws (number k g.0 + 1) 0 ≡ get_or s.words (number k g.0 + 1) 0 =
                  get_or-set_other s.words i (number k g.0 + 1) c.offset 0 (λ y. z (omega arith)) in omega arith);
            });
        newest = λ h is_cell. let below = cell_below k h is_cell in dite (ℕ_discrete (number k h) (number k f))
            (λ e. let z : h ≡ f = one_cell k h f is_cell lt e in
            inr (c.len, inl (λ j. (sym z j, (sym here ∙ ap (λ (y : Cell). get_or ws (number k y + 1) 0) (sym z)) j, c.len))))
            (λ z. let q : get_or ws (number k h + 1) 0 ≡ get_or s.words (number k h + 1) 0 =
            get_or-set_other s.words i (number k h + 1) c.offset 0 (λ y. z (omega arith)) in
            subst (λ (y : ℕ). (y ≡ 0) ⊎ ((n : ℕ) × Has more (h, y, n))) (sym q)
            (⊎_elim (λ a. inl a) (λ (a : (n : ℕ) × Has r.known (h, get_or s.words (number k h + 1) 0, n)). inr (a.0, inr a.1)) (r.newest h is_cell)));
        views = views_set (FitsView k more ws) s.views id w
            record {
              key = h.key;
              next = mine.next;
              claim = λ d ed. absurd (none_some d ed);
              regions = each_cons (FitsRegion more ws) (region f c.offset c.len c.written) v.regions
                  record { is_known = inl refl; room = hc.room; stands = ap (piece ws c.offset) whole ∙ claim_piece }
                  mine.regions;
              lookups = (h.lookups.0, (λ x y. ground x (h.lookups.1 x y)));
              joined = λ l y. ((h.joined l y).0, (λ x z. ground x ((h.joined l y).1 x z)));
            }
            others;
        apart = apart_set s.views id w r.apart (λ d ed. absurd (none_some d ed));
        alone = alone_set k r.known more s.words ws s.views id v w at r.alone (λ sole. (
          sole,
          λ q. record {
            one = q.one;
            front = same0 ∙ q.front;
            seen = each_cons (λ (g : Place). IsAmong w.regions g.0 g.1) g0 r.known (region f c.offset c.len c.written, inl refl, refl, refl)
                (λ g m. let x = q.seen g m in (x.0, inr x.1, x.2, x.3));
            behind = λ d ed. absurd (none_some d ed);
          },
        ));
      }
    where
      ground : (x : Cell × ℕ) → Grounded v.regions x → Grounded (region f c.offset c.len c.written ∷ v.regions) x
      ground x (inl z) = inl z
      ground x (inr z) = inr (z.0, inr z.1, z.2, z.3)

  pub publishes : (k : Key) (slots id : ℕ) (f : Cell) (i old new : ℕ) (me : Me S View) (c : Claim) → IsAt k i f → me.0.live ≡ true
      → me.0.claim ≡ Some c → new ≡ c.offset → old < c.offset → Grounded me.0.regions (f, old) → IsVersion k f c.written → length c.written ≡ c.len
      → Allows (Ruled k) slots id me i (λ n. either (eqb n old) new n) (published (step slots i old new none) me)
  publishes k slots id f i old new me c is_at live is new_is below ground spells whole =
      subst (λ (j : ℕ × ℕ). Allows (Ruled k) slots id me j.0 (λ n. either (eqb n old) j.1 n) (published (step slots j.0 old j.1 none) me))
      (λ q. (sym is_at.word q, sym new_is q)) (at_place)
    where
      at_f : IsAt k (number k f + 1) f
      at_f = record { cell = is_at.cell; word = refl }

      at_place : Allows (Ruled k) slots id me (number k f + 1) (λ n. either (eqb n old) c.offset n)
          (published (step slots (number k f + 1) old c.offset none) me)
      at_place s r _ at _ =
          let n : ℕ = get_or s.words (number k f + 1) 0 in
          let key = (r.views id me.0 at).key live in
          let one = λ (g : Cell) (z : IsAt me.0.key (number k f + 1) g). this_cell k me.0.key (number k f + 1) f g key at_f z in
          exchanged n old c.offset
          (λ (x : ℕ). (w : View) × (a : Act S) × Valid s.homes me.1 a × Ruled k (stepped s (number k f + 1) x id me.1 w a)
          × published (step slots (number k f + 1) old c.offset none) me n (w, carried_after me.1 a))
          (λ e. (
            ended (with_region me.0 (region f c.offset c.len c.written)) f (how.Published c.offset),
            keeps,
            tt,
            made k s r id f me.1 me.0 c is_at.cell at is spells whole (omega arith),
            (
              refl,
              λ d g ed z. (
                (λ _. λ j. ended
                    (with_region me.0 (region (one g z j) (the_claim me.0 c d is ed j).offset (the_claim me.0 c d is ed j).len
                    (the_claim me.0 c d is ed j).written)) (one g z j) (how.Published (the_claim me.0 c d is ed j).offset)),
                (λ ne. absurd (ne e)),
              ),
              reliable_after k s (number k f + 1) c.offset id me.1 me.0
                  (ended (with_region me.0 (region f c.offset c.len c.written)) f (how.Published c.offset)) at live
                  (made k s r id f me.1 me.0 c is_at.cell at is spells whole (omega arith)),
            ),
          ))
          (λ ne. let h = nears k s r id f me.1 me.0 c is_at.cell live at is in (
            h.0,
            keeps,
            tt,
            h.1,
            (
              refl,
              λ d g ed z. (
                (λ e. absurd (ne e)),
                (λ _. (
                  (let low = not_above k s r f old me.0 (r.views id me.0 at) ground in let q : old < n = omega arith in q),
                  subst (λ (y : ℕ × Cell). Finds me.0 y.0 y.1 n h.0) (λ j. ((the_claim me.0 c d is ed j).offset, one g z j)) h.2,
                )),
              ),
              reliable_after k s (number k f + 1) n id me.1 me.0 h.0 at h.3 h.1,
            ),
          ))
