-- What the rule tells of each view.
use Rattle.std.proofs.Common.{◌≡◌, ◌≢◌, ◌⊎◌, ℕ, zero, suc, ◌+◌, ◌-◌, ◌<◌, ◌≤◌, ◌==◌, eqb, Bool, true, false, true≢false, List, [], ◌∷◌, ◌++◌, map, length, take, drop, set, get_or, max, Option, Some, None, refl, sym, ap, ◌∙◌, subst, inl, inr, ⊎_elim, arith, length-set, length-append, le_refl, eq-eqb, ne_eqb, get_or-set_other, get_or-set_same}
use Rattle.std.proofs.lemmas.List.{get_or-drop, get_or-take}
use mathlib.Core.Option.{some}
use lib.ListN.{get_elem?}
use Rattle.atomic_table.specs.Table.{State, keeps, stepped}
use Rattle.atomic_table.proofs.Lists.{set_here}
use Rattle.cj_publish.specs.declared.view.Key.{Key}
use Rattle.cj_publish.specs.Cells.{program_in, cells}
use Rattle.cj_publish.specs.declared.view.View.{View}
use Rattle.cj_publish.specs.Words.{Has, piece}
use Rattle.cj_publish.specs.Rule.{Place, FitsView, IsAlone, Ruled, IsVersion}
use Rattle.cj_publish.specs.Reliable.{IsReliable}
use Rattle.cj_publish.proofs.Lists.{at_inside}
use Rattle.cj_publish.proofs.Spelt.{first_word_is}

pub length_piece : (ws : List ℕ) (o n : ℕ) → o + n ≤ length ws → length (piece ws o n) ≡ n
length_piece ws o n h = simp (Rattle.std.proofs.Common.length-take, Rattle.std.proofs.Common.length-drop) (omega arith)

module _ {S : Type 0} where
  pub long_enough : (k : Key) (s : State S View) (r : Ruled k s) (g : Place) → Has r.known g → (g.1 + g.2 ≤ length s.words)
      × (length (piece s.words g.1 g.2) ≡ g.2) × (2 ≤ g.2) × (get_or s.words g.1 0 ≡ g.2)
  long_enough k s r g m =
      let q = r.regions g m in
      let a = q.ends in
      let b = r.back in
      let c = r.sized in
      let fits : g.1 + g.2 ≤ length s.words = omega arith in
      let long : length (piece s.words g.1 g.2) ≡ g.2 = length_piece s.words g.1 g.2 fits in
      let spelt = first_word_is (program_in k) g.0.function g.0.slot (piece s.words g.1 g.2) q.spells in
      let some' = spelt.0 in
      let two : 2 ≤ g.2 = omega arith in
      let first : get_or (piece s.words g.1 g.2) 0 0 ≡ get_or s.words g.1 0 = get_or-take g.2 (drop g.1 s.words) 0 0 (omega arith)
      ∙ (get_or-drop g.1 s.words 0 0 ∙ ap (λ (y : ℕ). get_or s.words y 0) (let z : g.1 + 0 ≡ g.1 = omega arith in z)) in
      (fits, long, two, sym first ∙ (spelt.1 ∙ long))

  pub reliable : (k : Key) (s : State S View) (r : Ruled k s) (v : View) → v.live ≡ true → FitsView k r.known s.words v
      → (v.sole ≡ true → IsAlone k r.known s.words (length s.views) v) → IsReliable v
  reliable k s r v live h alone = record {
    spelled = λ y m. let q = h.regions y m in (
      q.room,
      λ whole. subst (λ (z : Key). IsVersion z y.cell y.read) (sym (h.key live))
          (subst (IsVersion k y.cell) (ap (piece s.words y.offset) (sym whole) ∙ q.stands) (r.regions (y.cell, y.offset, y.len) q.is_known).spells),
    );
    sound = record {
      agree = λ x y mx my e.
          let a = h.regions x mx in
          let b = h.regions y my in
          let p = (long_enough k s r (x.cell, x.offset, x.len) a.is_known).3 in
          let q = (long_enough k s r (y.cell, y.offset, y.len) b.is_known).3 in
          let same : x.len ≡ y.len = sym p ∙ (ap (λ (z : ℕ). get_or s.words z 0) e ∙ q) in
          (same, (λ wx wy. sym a.stands ∙ ((λ j. piece s.words (e j) ((wx ∙ (same ∙ sym wy)) j)) ∙ b.stands)));
      lookups = h.lookups;
      joined = h.joined;
    };
    starts = λ sole. let front = (alone sole).front in let next = h.next in
        subst (λ (y : Key). v.next ≤ cells y + 1 + v.taken) (sym (h.key live)) (omega arith);
  }

  -- the view that a step leaves
  pub reliable_after : (k : Key) (s : State S View) (i x id : ℕ) (cs : List (ℕ × S)) (v w : View) → get_elem? s.views id ≡ some v → w.live ≡ true
      → Ruled k (stepped s i x id cs w keeps) → IsReliable w
  reliable_after k s i x id cs v w at live r = reliable k (stepped s i x id cs w keeps) r w live (r.views id w here) (r.alone id w here)
    where
      here : get_elem? (set s.views id w) id ≡ some w
      here = set_here s.views id w (at_inside s.views id v at)
