-- The edges of a code, counted in lists.
use Rattle.std.proofs.Common.{◌≡◌, ℕ, suc, ◌+◌, ◌*◌, ◌<◌, ◌≤◌, Bool, true, false, cond, List, [], ◌∷◌, ◌++◌, length, map, get_or, drop, refl, sym, ap, ap₂, ◌∙◌}
use Rattle.std.proofs.Common.{arith, append_assoc, append-nil, length-append}
use Rattle.std.specs.Prelude.{count_by, All, nat_eq}
use Rattle.std.proofs.lemmas.List.{length-map, drop_more}
use Rattle.std.proofs.Math.ListN.{drop_of_length-le}
use Rattle.std.proofs.lemmas.List.Sums.{sum_by-cons, sum_by-append}
use Rattle.std.proofs.lemmas.List.FromFn.{length-map-range_with_len}
use Rattle.std.proofs.lemmas.List.Elements.{All-nil, All-cons, All-head, All-tail, All-append}
use Rattle.cj_ir.specs.declared.language.Label.{Label}
use Rattle.cj_draft.specs.declared.instructions.VInstr.{VInstr}
use Rattle.cj_draft.specs.declared.instructions.VInstr.TheVariants.{Nop, Op, Move, Cond, Call, Return, Print, Load, Store, Fail, Assume, Anchor}
use Rattle.cj_draft.specs.declared.code.Place.{Place}
use Rattle.cj_draft.specs.declared.code.Code.{Code}
use Rattle.cj_links.specs.EdgeTable.{EdgeTable, label_of, list_of, IsInto, edges_into, given}
use Rattle.std.proofs.lemmas.List.FromFn.{get_or-map-range_with_len}
use Rattle.cj_draft.specs.Edges.{successors}
use Rattle.cj_draft.proofs.Lists.{All-left, All-right}
use Rattle.cj_delay.specs.DelayedAssume.{is_label, all_nexts}
use Rattle.cj_delay.specs.CountedEdges.{edges_from, edges_of, AreCounted}

-- ---- how many

few_successors : (i : VInstr) → length (successors i) ≤ 2
unfolding successors
few_successors (Nop n) = omega arith
few_successors (Op d e n) = omega arith
few_successors (Move ps n) = omega arith
few_successors (Cond t x y) = omega arith
few_successors (Call d f args n) = omega arith
few_successors (Return v) = omega arith
few_successors (Print v n) = omega arith
few_successors (Load d a n) = omega arith
few_successors (Store a v n) = omega arith
few_successors (Fail f l) = omega arith
few_successors (Assume g b t n) = omega arith
few_successors (Anchor b t n) = omega arith

pub few_edges : (n : ℕ) (places : List Place) → length (edges_of n places) ≤ 2 * length places
unfolding edges_of edges_from
few_edges n [] = omega arith
few_edges n (p ∷ places) =
    let here = length-append (map (λ (next : Label). (label_of n, next)) (successors p.instr)) (edges_of (suc n) places) in
    let edge_to : Label → Label × Label = λ next. (label_of n, next) in
    let own = length-map (successors p.instr) edge_to in
    omega (arith, here, own, few_successors p.instr, few_edges (suc n) places)

-- ---- edges into labels

from_into : (m n : ℕ) (nexts : List Label) → All (λ (next : Label). next.0 < m) nexts → All (IsInto m) (map (λ (next : Label). (label_of n, next)) nexts)
from_into m n [] h = All-nil (IsInto m)
from_into m n (x ∷ nexts) h =
    All-cons (IsInto m) (label_of n, x) (map (λ (next : Label). (label_of n, next)) nexts) (All-head (λ (next : Label). next.0 < m) x nexts h)
    (from_into m n nexts (All-tail (λ (next : Label). next.0 < m) x nexts h))

pub edges_into_labels : (m n : ℕ) (places : List Place) → All (λ next. next.0 < m) (all_nexts places) → All (IsInto m) (edges_of n places)
unfolding edges_of edges_from all_nexts
edges_into_labels m n [] within = All-nil (IsInto m)
edges_into_labels m n (p ∷ places) within =
    All-append (IsInto m) (map (λ (next : Label). (label_of n, next)) (successors p.instr)) (edges_of (suc n) places)
    (from_into m n (successors p.instr) (All-left (λ (next : Label). next.0 < m) (successors p.instr) (all_nexts places) within))
    (edges_into_labels m (suc n) places (All-right (λ (next : Label). next.0 < m) (successors p.instr) (all_nexts places) within))

-- ---- into a label

pub count-append : {X : Type 0} (p : X → Bool) (xs ys : List X) → count_by p (xs ++ ys) ≡ count_by p xs + count_by p ys
count-append p xs ys = sum_by-append (λ x. cond (p x) 1 0) xs ys

pub count-cons : {X : Type 0} (p : X → Bool) (x : X) (xs : List X) → count_by p (x ∷ xs) ≡ cond (p x) 1 0 + count_by p xs
count-cons p x xs = sum_by-cons (λ y. cond (p y) 1 0) x xs

count_into : (label : Label) (n : ℕ) (edges : List (Label × Label)) → length (edges_into label n edges) ≡ count_by (λ edge. nat_eq edge.1.0 label.0) edges
count_into label n [] = refl
count_into label n (e ∷ edges) =
    by_test (nat_eq e.1.0 label.0) (count_into label (suc n) edges) ∙ sym (count-cons (λ (edge : Label × Label). nat_eq edge.1.0 label.0) e edges)
  where
    by_test : (b : Bool) → length (edges_into label (suc n) edges) ≡ count_by (λ edge. nat_eq edge.1.0 label.0) edges →
        length (cond b (record { 0 = n } ∷ edges_into label (suc n) edges) (edges_into label (suc n) edges))
        ≡ cond b 1 0 + count_by (λ edge. nat_eq edge.1.0 label.0) edges
    by_test true h = omega arith
    by_test false h = omega arith

count_from : (label from : Label) (nexts : List Label) →
    count_by (λ (edge : Label × Label). nat_eq edge.1.0 label.0) (map (λ (next : Label). (from, next)) nexts) ≡ count_by (is_label label) nexts
unfolding is_label
count_from label from [] = refl
count_from label from (x ∷ nexts) =
    count-cons (λ (edge : Label × Label). nat_eq edge.1.0 label.0) (from, x) (map (λ (next : Label). (from, next)) nexts)
    ∙ ap (λ k. cond (nat_eq x.0 label.0) 1 0 + k) (count_from label from nexts)
    ∙ sym (count-cons (λ (y : Label). nat_eq y.0 label.0) x nexts)

count_edges : (label : Label) (n : ℕ) (places : List Place) → count_by (λ (edge : Label × Label). nat_eq edge.1.0 label.0) (edges_of n places)
    ≡ count_by (is_label label) (all_nexts places)
unfolding edges_of edges_from all_nexts
count_edges label n [] = refl
count_edges label n (p ∷ places) =
    count-append (λ (edge : Label × Label). nat_eq edge.1.0 label.0) (map (λ (next : Label). (label_of n, next)) (successors p.instr)) (edges_of (suc n) places)
    ∙ ap₂ (λ a b. a + b) (count_from label (label_of n) (successors p.instr)) (count_edges label (suc n) places)
    ∙ sym (count-append (is_label label) (successors p.instr) (all_nexts places))

pub are_counted : (code : Code) (lists : EdgeTable) → lists ≡ given (length code.places) (edges_of 0 code.places) → AreCounted code lists
are_counted code lists e =
    let n = length code.places in
    let edges = edges_of 0 code.places in
    let f = λ (k : ℕ). edges_into (label_of k) 0 edges in
    record {
      labels = ap (λ (t : EdgeTable). length t.lists) e ∙ length-map-range_with_len f 0 n;
      count = λ label within.
          ap (λ (t : EdgeTable). length (list_of t label)) e
          ∙ ap length (get_or-map-range_with_len f 0 n label.0 label.0 [] within (omega arith))
          ∙ count_into label 0 edges ∙ count_edges label 0 code.places;
    }

-- ---- one place after the other

pub edges_more : (places : List Place) (at : ℕ) (p : Place) (so_far new whole : List (Label × Label)) → at < length places → get_or places at p ≡ p →
    so_far ++ edges_of at (drop at places) ≡ whole → new ≡ so_far ++ edges_from (label_of at) p.instr → new ++ edges_of (at + 1) (drop (at + 1) places) ≡ whole
unfolding edges_of
edges_more places at p so_far new whole h is before more =
    let split : drop at places ≡ p ∷ drop (at + 1) places = drop_more places at p h ∙ ap (λ (x : Place). x ∷ drop (at + 1) places) is in
    let number : at + 1 ≡ suc at = omega arith in
    ap (λ (es : List (Label × Label)). es ++ edges_of (at + 1) (drop (at + 1) places)) more
    ∙ append_assoc so_far (edges_from (label_of at) p.instr) (edges_of (at + 1) (drop (at + 1) places))
    ∙ ap (λ k. so_far ++ (edges_from (label_of at) p.instr ++ edges_of k (drop (at + 1) places))) number
    ∙ ap (λ (ps : List Place). so_far ++ edges_of at ps) (sym split) ∙ before

pub edges_end : (places : List Place) (at : ℕ) (so_far whole : List (Label × Label)) → length places ≤ at → so_far ++ edges_of at (drop at places) ≡ whole →
    so_far ≡ whole
unfolding edges_of
edges_end places at so_far whole h e = sym (append-nil so_far) ∙ ap (λ (ps : List Place). so_far ++ edges_of at ps) (sym (drop_of_length-le places h)) ∙ e
