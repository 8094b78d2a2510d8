-- The lists of edges as these are linked in turn.
use Rattle.std.proofs.Common.{◌≡◌, ◌≢◌, ℕ, suc, ◌+◌, ◌^◌, ◌<◌, ◌≤◌, Bool, true, false, cond, List, [], ◌∷◌, ◌++◌, length, get_or, map, replicate, refl, sym, ap}
use Rattle.std.proofs.Common.{◌∙◌, subst, ⊎_elim, arith, length-set, get_or-set_same, get_or-set_other}
use Rattle.std.specs.Prelude.{Contains, All, AllPairs, slice_set, nat_eq}
use Rattle.std.specs.List.{range_with_len}
use Rattle.std.proofs.lemmas.Bool.{cases_eq, cases_lt, eq-eqb, ne_eqb}
use Rattle.std.proofs.lemmas.List.{same_lists, length-replicate, append-nil, get_or_past, get_or-replicate}
use Rattle.std.proofs.lemmas.List.FromFn.{length-map-range_with_len, get_or-map-range_with_len}
use Rattle.std.proofs.lemmas.List.Elements.{All-nil, All-cons, All-contains}
use Rattle.cj_ir.specs.declared.language.Label.{Label}
use Rattle.cj_ir.proofs.Members.{contains-none}
use Rattle.cj_links.specs.declared.edges.EdgeId.{EdgeId}
use Rattle.cj_links.specs.declared.edges.Node.{Node}
use Rattle.cj_links.specs.EdgeTable.{edge_table, label_of, end_of, edges_into, lists_into, IsInto, IsWoven}
use Rattle.cj_links.specs.Threads.{node, Chain, nodes_of, IsThreaded}
use Rattle.cj_links.proofs.Members.{once-nil}

pub length_into : (labels : ℕ) (edges : List (Label × Label)) → length (lists_into labels edges) ≡ labels
length_into labels edges = length-map-range_with_len (λ (n : ℕ). edges_into (label_of n) 0 edges) 0 labels

pub list_into : (labels n : ℕ) (edges : List (Label × Label)) (d : List EdgeId) → n < labels →
    get_or (lists_into labels edges) n d ≡ edges_into (label_of n) 0 edges
list_into labels n edges d within = get_or-map-range_with_len (λ (k : ℕ). edges_into (label_of k) 0 edges) 0 labels n n d within (omega arith)

-- ---- none linked

list_none : (labels n : ℕ) → get_or (lists_into labels []) n [] ≡ []
list_none labels n = ⊎_elim
    (λ within. list_into labels n [] [] within)
    (λ outside. get_or_past (lists_into labels []) n [] (let h = length_into labels [] in omega arith))
    (cases_lt n labels)

pub none_woven : (labels : ℕ) (edges : List (Label × Label)) → All (IsInto labels) edges → IsWoven (edge_table edges (lists_into labels []))
none_woven labels edges into = record {
  into = subst (λ n. All (IsInto n) edges) (sym (length_into labels [])) into;
  edges_in = λ label. subst (λ xs. All (λ (edge : EdgeId). edge.0 < length edges) xs) (sym (list_none labels label.0))
      (All-nil (λ (edge : EdgeId). edge.0 < length edges));
  ends = λ label. subst (λ xs. All (λ (edge : EdgeId). end_of (edge_table edges (lists_into labels [])) edge ≡ label) xs) (sym (list_none labels label.0))
      (All-nil (λ (edge : EdgeId). end_of (edge_table edges (lists_into labels [])) edge ≡ label));
  once = λ label. subst (λ xs. AllPairs (λ (one other : EdgeId). one ≢ other) xs) (sym (list_none labels label.0)) once-nil;
}

alone : (count n : ℕ) → n < count → get_or (map (λ at. node at at) (range_with_len 0 count)) n (node 0 0) ≡ node n n
alone count n within = get_or-map-range_with_len (λ (at : ℕ). node at at) 0 count n n (node 0 0) within (omega arith)

pub none_threaded : (labels : ℕ) (edges : List (Label × Label)) → All (IsInto labels) edges → length edges < 2 ^ 32 →
    IsThreaded labels (map (λ at. node at at) (range_with_len 0 (labels + length edges))) (replicate labels 0) edges (lists_into labels [])
none_threaded labels edges into few = record {
  lists_of = length_into labels [];
  counts_of = length-replicate labels 0;
  nodes_for = length-map-range_with_len (λ (at : ℕ). node at at) 0 (labels + length edges);
  few = few;
  counted = λ n within. get_or-replicate labels n 0 0 within ∙ ap length (sym (list_none labels n));
  chained = λ n within. subst (λ xs. Chain (map (λ at. node at at) (range_with_len 0 (labels + length edges))) n (nodes_of labels xs) n)
      (sym (list_none labels n)) (
        ap (λ (v : Node). v.after) (alone (labels + length edges) n (omega arith)),
        ap (λ (v : Node). v.before) (alone (labels + length edges) n (omega arith)),
      );
  woven = none_woven labels edges into;
}

-- ---- one linked more

with_head : (b : Bool) (x : EdgeId) (one other more : List EdgeId) → one ≡ other ++ more → cond b (x ∷ one) one ≡ cond b (x ∷ other) other ++ more
with_head true x one other more h = ap (λ (xs : List EdgeId). x ∷ xs) h
with_head false x one other more h = h

into-append : (label : Label) (n : ℕ) (edges : List (Label × Label)) (edge : Label × Label) →
    edges_into label n (edges ++ edge ∷ []) ≡ edges_into label n edges ++ cond (nat_eq edge.1.0 label.0) (record { 0 = n + length edges } ∷ []) []
into-append label n [] edge = ap (λ (k : ℕ). cond (nat_eq edge.1.0 label.0) (record { 0 = k } ∷ []) []) (omega arith)
into-append label n (e ∷ edges) edge =
    let rest = into-append label (suc n) edges edge in
    let number : suc n + length edges ≡ n + suc (length edges) = omega arith in
    let step = rest ∙ ap (λ (k : ℕ). edges_into label (suc n) edges ++ cond (nat_eq edge.1.0 label.0) (record { 0 = k } ∷ []) []) number in
    with_head (nat_eq e.1.0 label.0) (record { 0 = n }) (edges_into label (suc n) (edges ++ edge ∷ [])) (edges_into label (suc n) edges)
    (cond (nat_eq edge.1.0 label.0) (record { 0 = n + suc (length edges) } ∷ []) []) step

into-below : (label : Label) (n : ℕ) (edges : List (Label × Label)) → All (λ edge. edge.0 < n + length edges) (edges_into label n edges)
into-below label n [] = All-nil (λ (edge : EdgeId). edge.0 < n + 0)
into-below label n (e ∷ edges) = here (nat_eq e.1.0 label.0)
    (subst (λ k. All (λ (edge : EdgeId). edge.0 < k) (edges_into label (suc n) edges)) (omega arith) (into-below label (suc n) edges))
  where
    here : (b : Bool) → All (λ (edge : EdgeId). edge.0 < n + suc (length edges)) (edges_into label (suc n) edges) →
        All (λ (edge : EdgeId). edge.0 < n + suc (length edges)) (cond b (record { 0 = n } ∷ edges_into label (suc n) edges) (edges_into label (suc n) edges))
    here true h = All-cons (λ (edge : EdgeId). edge.0 < n + suc (length edges)) (record { 0 = n }) (edges_into label (suc n) edges) (omega arith) h
    here false h = h

-- an edge that is not among those given so far is not linked
pub given_free : (labels : ℕ) (so_far : List (Label × Label)) (label : Label) (e : EdgeId) → length so_far ≤ e.0 →
    Contains (get_or (lists_into labels so_far) label.0 []) e → ⊥
given_free labels so_far label e late c = ⊎_elim
    (λ within.
    let h : e.0 < 0 + length so_far = All-contains (λ (edge : EdgeId). edge.0 < 0 + length so_far) (edges_into label 0 so_far) e (into-below label 0 so_far)
    (subst (λ xs. Contains xs e) (list_into labels label.0 so_far [] within) c) in
    omega arith)
    (λ outside. contains-none e
    (subst (λ xs. Contains xs e) (get_or_past (lists_into labels so_far) label.0 [] (let h = length_into labels so_far in omega arith)) c))
    (cases_lt label.0 labels)

-- the lists of those given so far, and of one more
pub lists_more : (labels : ℕ) (so_far : List (Label × Label)) (edge : Label × Label) (e : EdgeId) → e.0 ≡ length so_far → edge.1.0 < labels →
    slice_set (lists_into labels so_far) edge.1.0 (get_or (lists_into labels so_far) edge.1.0 [] ++ e ∷ []) ≡ lists_into labels (so_far ++ edge ∷ [])
lists_more labels so_far edge e number within =
    let old = lists_into labels so_far in
    let to = edge.1.0 in
    let list = get_or old to [] ++ e ∷ [] in
    let size = length_into labels so_far in
    same_lists _ _ (length-set old to list ∙ size ∙ sym (length_into labels (so_far ++ edge ∷ []))) (λ k d h.
    let k_in : k < labels = omega (arith, length-set old to list) in
    let to_in : to < length old = omega arith in
    ⊎_elim
    (λ (same : k ≡ to).
    ap (λ n. get_or (slice_set old to list) n d) same ∙ get_or-set_same old to list d to_in
    ∙ ap (λ (xs : List EdgeId). xs ++ e ∷ []) (list_into labels to so_far [] within)
    ∙ ap (λ (n : ℕ). edges_into (label_of to) 0 so_far ++ record { 0 = n } ∷ []) number
    ∙ ap (λ (b : Bool). edges_into (label_of to) 0 so_far ++ cond b (record { 0 = length so_far } ∷ []) []) (sym (eq-eqb to to refl))
    ∙ appended to
    ∙ sym (list_into labels to (so_far ++ edge ∷ []) d within)
    ∙ ap (λ n. get_or (lists_into labels (so_far ++ edge ∷ [])) n d) (sym same))
    (λ (other : k ≡ to → ⊥).
    get_or-set_other old to k list d other
    ∙ list_into labels k so_far d k_in
    ∙ sym (append-nil (edges_into (label_of k) 0 so_far))
    ∙ ap (λ (b : Bool). edges_into (label_of k) 0 so_far ++ cond b (record { 0 = length so_far } ∷ []) []) (sym (ne_eqb to k (λ h. other (sym h))))
    ∙ appended k
    ∙ sym (list_into labels k (so_far ++ edge ∷ []) d k_in))
    (cases_eq k to))
  where
    appended : (k : ℕ) → edges_into (label_of k) 0 so_far ++ cond (nat_eq edge.1.0 k) (record { 0 = length so_far } ∷ []) []
        ≡ edges_into (label_of k) 0 (so_far ++ edge ∷ [])
    appended k = ap (λ (n : ℕ). edges_into (label_of k) 0 so_far ++ cond (nat_eq edge.1.0 k) (record { 0 = n } ∷ []) []) (omega arith)
        ∙ sym (into-append (label_of k) 0 so_far edge)
