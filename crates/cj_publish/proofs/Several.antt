-- What a call of several steps does.
use Rattle.std.proofs.Common.{◌≡◌, ◌≢◌, ◌⊎◌, ℕ, zero, suc, ◌+◌, ◌-◌, ◌<◌, ◌≤◌, ◌==◌, eqb, Bool, true, false, true≢false, List, [], ◌∷◌, ◌++◌, map, length, take, drop, set, get_or, max, Option, Some, None, refl, sym, ap, ◌∙◌, subst, inl, inr, ⊎_elim, arith, length-set, length-append, le_refl, eq-eqb, ne_eqb, get_or-set_other, get_or-set_same}
use mathlib.Core.Option.{none}
use mathlib.Core.Logic.{dite}
use native.Mathlib.Decide.{dec_lt}
use Rattle.atomic_table.specs.Table.{Me, step}
use Rattle.cj_publish.specs.declared.view.Key.{Key}
use Rattle.cj_publish.specs.declared.view.Cell.{Cell}
use Rattle.cj_publish.specs.declared.view.Claim.{Claim}
use Rattle.cj_publish.specs.declared.view.Region.{Region}
use Rattle.cj_publish.specs.declared.view.View.{View}
use Rattle.cj_publish.specs.Words.{Has, Each}
use Rattle.cj_publish.specs.Rule.{IsVersion}
use Rattle.cj_publish.specs.Seen.{SeenAt, ReadWhole, SeesNoMore, SeesOneMore}
use Rattle.cj_publish.specs.Views.{ended, with_regions, with_region}
use Rattle.cj_publish.specs.Reliable.{IsSpelled}
use Rattle.cj_publish.specs.Plays.{region, Finds, take_in, Fetches, fetched}
use Rattle.cj_publish.proofs.Lists.{each_cons}
use mathlib.Core.List.{IsPrefix}
use Rattle.std.proofs.Math.Seq.{take-suc}
use Rattle.std.proofs.Common.{append_assoc}
use Rattle.std.proofs.lemmas.List.{take_all}
use Rattle.cj_publish.specs.declared.seats.Held.{Held}
use Rattle.cj_publish.specs.declared.publishing.Published.{Published}
use Rattle.cj_publish.specs.declared.publishing.Published.TheVariants as how
use Rattle.cj_publish.specs.Seated.{IsHeld, IsWithin}
use Rattle.cj_publish.specs.Calls.{Gains, Grows, Publishes}
use Rattle.cj_publish.proofs.Looks.{map_has, has_map, taken_in, same_place}

-- the state of a search for an offset below the claim's, where f's word was found at o
abbrev pub Searching : View → Claim → Cell → ℕ → View → Type 0
Searching v c f o u =
    (o < c.offset → Gains v u × (u.claim ≡ Some c) × ((o ≡ 0) ⊎ SeenAt u f o) × (v.sole ≡ true → SeesNoMore v u) × (u.outcomes ≡ v.outcomes))
    × (c.offset ≤ o → (c.offset < o) × Gains v u × (u.claim ≡ None) × SeenAt u f o × ¬ (v.sole ≡ true)
    × (u.outcomes ≡ v.outcomes ++ (f, how.Older c.offset o) ∷ []))

-- the first k words of the region of f at o, which has n, are read
abbrev pub HasRead : View → Cell → ℕ → ℕ → ℕ → List ℕ → Type 0
HasRead v f o n k ws = (x : Region) × Has v.regions x × (x.cell ≡ f) × (x.offset ≡ o) × (x.len ≡ n) × (k ≤ length x.read) × (take k x.read ≡ ws)

pub held_is : (cl : Option Claim) (h : Option Held) (c : Claim) (d : Held) → cl ≡ Some c → h ≡ Some d → IsHeld cl h → (d.offset ≡ c.offset)
    × (d.len ≡ c.len) × (d.written ≡ length c.written)
held_is cl h c d e f t = subst (λ (y : Option Claim × Option Held). IsHeld y.0 y.1) (λ i. (e i, f i)) t

pub gains_same : (v : View) → Gains v v
gains_same v = record { live = refl; sole = refl; key = refl; next = refl; lookups = refl; taken = refl; joined = refl; splits = refl; regions = λ x h. h; within = λ h. h }

gains_region : (v u : View) (r : Region) → r.offset < u.key.size → Gains v u → Gains v (with_region u r)
gains_region v u r inside g = record {
  live = g.live;
  sole = g.sole;
  key = g.key;
  next = g.next;
  lookups = g.lookups;
  taken = g.taken;
  joined = g.joined;
  splits = g.splits;
  regions = λ x h. inr (g.regions x h);
  within = λ h. each_cons (λ (x : Region). x.offset < u.key.size) r u.regions inside (g.within h);
}

gains_end : (v u : View) (f : Cell) (outcome : Published) → Gains v u → Gains v (ended u f outcome)
gains_end v u f outcome g = record {
  live = g.live;
  sole = g.sole;
  key = g.key;
  next = g.next;
  lookups = g.lookups;
  taken = g.taken;
  joined = g.joined;
  splits = g.splits;
  regions = g.regions;
  within = g.within;
}

pub sees_itself : (v : View) → SeesNoMore v v
sees_itself v f o x = x

-- a region at a place that was seen tells nothing new
pub sees_again : (v : View) (r : Region) → SeenAt v r.cell r.offset → SeesNoMore v (with_region v r)
sees_again v r seen f o (x, inl e, cell, offset) =
    subst (λ (y : Cell × ℕ). SeenAt v y.0 y.1) (λ i. ((ap (λ (y : Region). y.cell) e ∙ cell) i, (ap (λ (y : Region). y.offset) e ∙ offset) i)) seen
sees_again v r seen f o (x, inr m, cell, offset) = (x, m, cell, offset)

pub sees_one : (v : View) (r : Region) → SeesOneMore v r.cell r.offset (with_region v r)
sees_one v r f o (x, inl e, cell, offset) = inr (sym cell ∙ sym (ap (λ (y : Region). y.cell) e), sym offset ∙ sym (ap (λ (y : Region). y.offset) e))
sees_one v r f o (x, inr m, cell, offset) = inl (x, m, cell, offset)

-- what one step of the search finds
pub found_gives : (v u w : View) (c : Claim) (f : Cell) (o : ℕ) → Gains v u → u.claim ≡ Some c → (v.sole ≡ true → SeesNoMore v u)
    → u.outcomes ≡ v.outcomes → Finds u c.offset f o w → Searching v c f o w
found_gives v u w c f o g is no_more same h = (
  (λ low. ⊎_elim
      (λ (z : (o ≡ 0) × (w ≡ u)). (
        subst (Gains v) (sym z.1) g,
        ap (λ (y : View). y.claim) z.1 ∙ is,
        inl z.0,
        λ sole. subst (SeesNoMore v) (sym z.1) (no_more sole),
        ap (λ (y : View). y.outcomes) z.1 ∙ same,
      ))
      (λ (z : (n : ℕ) × (0 < o) × (o < u.key.size) × (w ≡ with_region u (region f o n []))).
      let s : View = with_region u (region f o z.0 []) in (
        subst (Gains v) (sym z.3) (gains_region v u (region f o z.0 []) z.2 g),
        ap (λ (y : View). y.claim) z.3 ∙ is,
        inr (subst (λ (y : View). SeenAt y f o) (sym z.3) (region f o z.0 [], inl refl, refl, refl)),
        λ sole. subst (SeesNoMore v) (sym z.3) (λ e p x. no_more sole e p
            (sees_again u (region f o z.0 []) (h.3 (g.sole ∙ sole) (λ nothing. let some = z.1 in omega arith)) e p x)),
        ap (λ (y : View). y.outcomes) z.3 ∙ same,
      ))
      (h.0 low)),
  (λ high. let z = h.1 high in
      let s : View = with_region u (region f o z.2.0 []) in (
        z.0,
        subst (Gains v) (sym z.2.1) (gains_end v s f (how.Older c.offset o) (gains_region v u (region f o z.2.0 []) z.1 g)),
        ap (λ (y : View). y.claim) z.2.1,
        subst (λ (y : View). SeenAt y f o) (sym z.2.1) (region f o z.2.0 [], inl refl, refl, refl),
        λ sole. let low = h.2 (g.sole ∙ sole) in omega arith,
        ap (λ (y : View). y.outcomes) z.2.1 ∙ ap (λ (os : List (Cell × Published)). os ++ (f, how.Older c.offset o) ∷ []) same,
      )),
)

-- the exchange that succeeds
pub published_gives : (v u w : View) (c : Claim) (f : Cell) → v.claim ≡ Some c → c.offset < u.key.size → Gains v u
    → (v.sole ≡ true → SeesNoMore v u) → u.outcomes ≡ v.outcomes
    → w ≡ ended (with_region u (region f c.offset c.len c.written)) f (how.Published c.offset) → Publishes v f (how.Published c.offset) w
published_gives v u w c f is inside g no_more same e =
    let r : Region = region f c.offset c.len c.written in (
      c,
      is,
      refl,
      subst (Gains v) (sym e) (gains_end v (with_region u r) f (how.Published c.offset) (gains_region v u r inside g)),
      ap (λ (y : View). y.claim) e,
      subst (λ (y : View). Has y.regions r) (sym e) (inl refl),
      ap (λ (y : View). y.outcomes) e ∙ ap (λ (os : List (Cell × Published)). os ++ (f, how.Published c.offset) ∷ []) same,
      λ sole. subst (SeesOneMore v f c.offset) (sym e) (λ h p x. ⊎_elim (λ seen. inl (no_more sole h p seen)) (λ new. inr new) (sees_one u r h p x)),
    )

-- a seat after publishing
pub publishes_leaves : (v w : View) (f : Cell) (p : Published) → Publishes v f p w → (w.claim ≡ None) × Gains v w
publishes_leaves v w f (how.Published o) h = (h.4, h.3)
publishes_leaves v w f (how.Older mine found) h = (h.5, h.4)

prefix_same : (xs : List ℕ) → IsPrefix xs xs
prefix_same xs = ([], Rattle.std.proofs.Common.append-nil xs)

pub grows_same : (v : View) → Grows v v
grows_same v = record {
  live = refl;
  sole = refl;
  key = refl;
  next = refl;
  claim = refl;
  lookups = refl;
  taken = refl;
  outcomes = refl;
  joined = refl;
  splits = refl;
  regions =
      λ x h. (x, h, refl, refl, refl, prefix_same x.read);
  no_more = sees_itself v;
}

longer : (at r : ℕ) (y : Region) → IsPrefix y.read (take_in at r y).read
longer at r y = taken_in at r y (λ (z : Region). IsPrefix y.read z.read) (λ _. prefix_same y.read) (λ _ _. (r ∷ [], refl))

pub grows_more : (v u : View) (at r : ℕ) → Grows v u → Grows v (with_regions u (map (take_in at r) u.regions))
grows_more v u at r g = record {
  live = g.live;
  sole = g.sole;
  key = g.key;
  next = g.next;
  claim = g.claim;
  lookups = g.lookups;
  taken = g.taken;
  outcomes = g.outcomes;
  joined = g.joined;
  splits = g.splits;
  regions = λ x h.
      let y = g.regions x h in
      let p = same_place at r y.0 in
      let q = longer at r y.0 in (
        take_in at r y.0,
        map_has (take_in at r) u.regions y.0 y.1,
        p.0 ∙ y.2,
        p.1 ∙ y.3,
        p.2 ∙ y.4,
        (y.5.0 ++ q.0, sym (append_assoc x.read y.5.0 q.0) ∙ (ap (λ (l : List ℕ). l ++ q.0) y.5.1 ∙ q.1)),
      );
  no_more = λ f o y.
      let x = has_map (take_in at r) u.regions y.0 y.1 in
      let p = same_place at r x.0 in
      g.no_more f o (x.0, x.1, sym p.0 ∙ ap (λ (z : Region). z.cell) x.2 ∙ y.2, sym p.1 ∙ ap (λ (z : Region). z.offset) x.2 ∙ y.3);
}

pub within_more : (u : View) (at r : ℕ) → IsWithin u → IsWithin (with_regions u (map (take_in at r) u.regions))
within_more u at r h = record {
  claim = h.claim;
  within = λ y m. let x = has_map (take_in at r) u.regions y m in
      subst (λ (z : Region). z.offset < u.key.size) x.2 (subst (λ (n : ℕ). n < u.key.size) (sym (same_place at r x.0).1) (h.within x.0 x.1));
}

-- the word behind those that were read
pub reads_more : (u : View) (f : Cell) (o n k at r : ℕ) (ws : List ℕ) → at ≡ o + k → k < n → HasRead u f o n k ws → Fetches u.key.size u.regions at r
    → HasRead (with_regions u (map (take_in at r) u.regions)) f o n (k + 1) (ws ++ r ∷ [])
reads_more u f o n k at r ws at_is lt h finds =
    let x : Region = h.0 in
    let p = same_place at r x in
    let of = h.3 in
    let len = h.4 in
    let some' = h.5 in
    let word = (finds x h.1).1 in
    let q = taken_in at r x (λ (y : Region). (k + 1 ≤ length y.read) × (take (k + 1) y.read ≡ ws ++ r ∷ []))
    (λ same.
    let there : k < length x.read = dite (dec_lt k (length x.read)) (λ z. z) (λ z. absurd (same (omega arith) (omega arith))) in
    let is : get_or x.read (at - x.offset) 0 ≡ r = word (omega arith) (omega arith) in
    let back : at - x.offset ≡ k = omega arith in (
      omega arith,
      ap (λ (m : ℕ). take m x.read) (let z : k + 1 ≡ suc k = omega arith in z)
          ∙ (take-suc x.read k 0 there ∙ (λ i. h.6 i ++ ((ap (λ (m : ℕ). get_or x.read m 0) (sym back) ∙ is) i) ∷ [])),
    ))
    (λ e l.
    let same : k ≡ length x.read = omega arith in
    let long : length (x.read ++ r ∷ []) ≡ length x.read + 1 = omega (arith, length-append x.read (r ∷ [])) in
    (omega arith, take_all (k + 1) (x.read ++ r ∷ []) (omega arith) ∙ ap (λ (l : List ℕ). l ++ r ∷ []) (sym (take_all k x.read (omega arith)) ∙ h.6)))
    in
    (take_in at r x, map_has (take_in at r) u.regions x h.1, p.0 ∙ h.2, p.1 ∙ of, p.2 ∙ len, q.0, q.1)

module _ {S : Type 0} where
  pub after_fetch : (slots at r : ℕ) (me me' : Me S View) (h : Option Held) → fetched (step slots at 0 0 none) me r me' → me.1 ≡ []
      → IsHeld me.0.claim h → IsWithin me.0 → (me'.1 ≡ []) × IsHeld me'.0.claim h × IsWithin me'.0
      × (me'.0.splits ≡ me.0.splits)
  after_fetch slots at r me me' h f bare tied within =
      (f.0 ∙ bare, subst (λ (y : View). IsHeld y.claim h) (sym f.1) tied, subst IsWithin (sym f.1) (within_more me.0 at r within), ap (λ (y : View). y.splits) f.1)

  pub grows_fetch : (slots at r : ℕ) (me me' : Me S View) (v : View) → fetched (step slots at 0 0 none) me r me' → Grows v me.0 → Grows v me'.0
  grows_fetch slots at r me me' v f g = subst (Grows v) (sym f.1) (grows_more v me.0 at r g)

  pub reads_fetch : (slots at r : ℕ) (me me' : Me S View) (f : Cell) (o n k : ℕ) (ws : List ℕ) → fetched (step slots at 0 0 none) me r me'
      → at ≡ o + k → k < n → HasRead me.0 f o n k ws → HasRead me'.0 f o n (k + 1) (ws ++ r ∷ [])
  reads_fetch slots at r me me' f o n k ws h at_is lt read =
      subst (λ (y : View). HasRead y f o n (k + 1) (ws ++ r ∷ [])) (sym h.1) (reads_more me.0 f o n k at r ws at_is lt read h.2)

  -- the first word of a region that was seen is its length
  pub first_word : (slots r : ℕ) (me me' : Me S View) (f : Cell) (o : ℕ) → fetched (step slots o 0 0 none) me r me' → SeenAt me.0 f o → (2 ≤ r)
      × (o + r ≤ me.0.key.size) × HasRead me.0 f o r 0 []
  first_word slots r me me' f o h seen =
      let x : Region = seen.0 in
      let q = (h.2 x seen.1).0 (sym seen.3) in
      let is = q.0 in
      let of = seen.3 in
      let a = q.1 in
      let b = q.2 in
      (a, omega arith, (x, seen.1, seen.2, of, sym is, omega arith, refl))

pub read_whole : (v : View) (k : Key) (f : Cell) (o n : ℕ) (ws : List ℕ) → HasRead v f o n n ws → Each (IsSpelled v.key) v.regions → v.key ≡ k
    → ReadWhole v f o ws × IsVersion k f ws
read_whole v k f o n ws h spelled key =
    let x : Region = h.0 in
    let q = spelled x h.1 in
    let a = q.0 in
    let b = h.4 in
    let c = h.5 in
    let len : length x.read ≡ x.len = omega arith in
    let is : x.read ≡ ws = sym (take_all n x.read (omega arith)) ∙ h.6 in (
      (x, h.1, h.2, h.3, sym len ∙ ap length is, is),
      subst (λ (y : Key). IsVersion y f ws) key (subst (λ (y : Cell × List ℕ). IsVersion v.key y.0 y.1) (λ i. (h.2 i, is i)) (q.1 len)),
    )
