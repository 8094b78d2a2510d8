-- What the threads keep as an edge is taken out of its list, led elsewhere, and put in.
use Rattle.std.proofs.Common.{if◌then◌else◌, ◌≡◌, ◌≢◌, ℕ, zero, suc, ◌+◌, ◌-◌, ◌^◌, ◌<◌, ◌≤◌, Bool, List, [], ◌∷◌, ◌++◌, length, get_or, Some, None, refl, sym}
use Rattle.std.proofs.Common.{ap, ap₂, ◌∙◌, subst, ⊎_elim, arith, length-set, length-append, get_or-set_same, get_or-set_other}
use Rattle.std.specs.Prelude.{Contains, All, AllPairs, slice_get, slice_set}
use Rattle.std.proofs.lemmas.Bool.{cases_eq, lt-ltb, le-ltb}
use Rattle.std.proofs.lemmas.List.{same_lists, get_or_default}
use Rattle.std.proofs.lemmas.List.FromFn.{length-map-range_with_len, get_or-map-range_with_len}
use Rattle.std.proofs.lemmas.List.Elements.{All-contains, All-push, All-set, Contains-append_cases}
use Rattle.std.proofs.lemmas.Option.{same_Some, none-some}
use Rattle.cj_ir.specs.declared.language.Label.{Label}
use Rattle.cj_ir.proofs.Members.{contains-none, contains-one, contains-head, contains-tail, contains-cases, all-from_contains}
use Rattle.cj_links.specs.declared.edges.EdgeId.{EdgeId}
use Rattle.cj_links.specs.declared.edges.Node.{Node}
use Rattle.cj_links.specs.EdgeTable.{EdgeTable, edge_table, label_of, edge_of, end_of, without, IsLinked, IsInto, unlinked, linked, led_to, IsWoven}
use Rattle.cj_links.specs.Threads.{after_of, before_of, lead, Chain, nodes_of, edge_at, walk, walks, table_of, IsThreaded}
use Rattle.cj_links.proofs.Members.{same_edge, nodes-contain, node-edge, nodes-listed, nodes-apart, without-contains, without-gone, without-once, without-count}
use Rattle.cj_links.proofs.Members.{few_edges, append-once, nodes-without, nodes-append}
use Rattle.cj_links.proofs.Chains.{length-lead, chain_lead, chain_last, chain_before, chain_first, chain_after, cut, lead_both, join}

-- ---- lists

none_listed : {X : Type 0} (lists : List (List X)) (n : ℕ) (x : X) → Contains (get_or lists n []) x → n < length lists
none_listed [] n x c = absurd (contains-none x c)
none_listed (list ∷ lists) zero x c = omega arith
none_listed (list ∷ lists) (suc n) x c = let h = none_listed lists n x c in omega arith

module _ (edges : List (Label × Label)) (lists : List (List EdgeId)) (w : IsWoven (edge_table edges lists)) where
  -- a list may be replaced by one of edges that lead to its label, each once
  pub woven_set : (n : ℕ) (list : List EdgeId) → n < length lists → All (λ edge. edge.0 < length edges) list →
      All (λ edge. end_of (edge_table edges lists) edge ≡ label_of n) list → AllPairs (λ one other. one ≢ other) list →
      IsWoven (edge_table edges (slice_set lists n list))
  woven_set n list within edges_in ends once = record {
    into = subst (λ m. All (IsInto m) edges) (sym (length-set lists n list)) w.into;
    edges_in = λ label. at label (λ l xs. All (λ edge. edge.0 < length edges) xs) edges_in (w.edges_in label);
    ends = λ label. at label (λ l xs. All (λ edge. end_of (edge_table edges lists) edge ≡ l) xs) ends (w.ends label);
    once = λ label. at label (λ l xs. AllPairs (λ one other. one ≢ other) xs) once (w.once label);
  }
    where
      at : (label : Label) (P : Label → List EdgeId → Type 0) → P (label_of n) list → P label (get_or lists label.0 []) →
          P label (get_or (slice_set lists n list) label.0 [])
      at label P here there = ⊎_elim
          (λ (same : label.0 ≡ n).
          let is : label_of n ≡ label = ap label_of (sym same) in
          let read : list ≡ get_or (slice_set lists n list) label.0 [] = sym (get_or-set_same lists n list [] within)
          ∙ ap (λ k. get_or (slice_set lists n list) k []) (sym same) in
          subst (P label) read (subst (λ l. P l list) is here))
          (λ other. subst (P label) (sym (get_or-set_other lists n label.0 list [] other)) there)
          (cases_eq label.0 n)

-- ---- the edge of a node

edge_at-label : (labels n : ℕ) → n < labels → edge_at labels n ≡ None
edge_at-label labels n h = ap (λ (b : Bool). if b then None else Some (record { 0 = n - labels })) (lt-ltb n labels h)

edge_at-edge : (labels : ℕ) (e : EdgeId) → edge_at labels (labels + e.0) ≡ Some e
edge_at-edge labels e =
    ap (λ (b : Bool). if b then None else Some (record { 0 = labels + e.0 - labels })) (le-ltb (labels + e.0) labels (omega arith))
    ∙ ap Some (same_edge (record { 0 = labels + e.0 - labels }) e (omega arith))

chain_read : (labels : ℕ) (nodes : List Node) (list : List EdgeId) (a z : ℕ) → Chain nodes a (nodes_of labels list) z → z < labels →
    edge_at labels (after_of nodes a) ≡ slice_get list 0
chain_read labels nodes [] a z c h = ap (edge_at labels) c.0 ∙ edge_at-label labels z h
chain_read labels nodes (x ∷ list) a z c h = ap (edge_at labels) c.0 ∙ edge_at-edge labels x

chain_next : (labels : ℕ) (nodes : List Node) (list : List EdgeId) (a z k : ℕ) (e : EdgeId) → Chain nodes a (nodes_of labels list) z → z < labels →
    slice_get list k ≡ Some e → edge_at labels (after_of nodes (labels + e.0)) ≡ slice_get list (suc k)
chain_next labels nodes [] a z k e c h at = absurd (none-some e at)
chain_next labels nodes (x ∷ list) a z zero e c h at =
    ap (λ (y : EdgeId). edge_at labels (after_of nodes (labels + y.0))) (sym (same_Some x e at)) ∙ chain_read labels nodes list (labels + x.0) z c.2 h
chain_next labels nodes (x ∷ list) a z (suc k) e c h at = chain_next labels nodes list (labels + x.0) z k e c.2 h at

-- ---- what is known of threads

module _ (labels : ℕ) (nodes : List Node) (counts : List ℕ) (edges : List (Label × Label)) (lists : List (List EdgeId))
    (t : IsThreaded labels nodes counts edges lists) where
  abbrev table : EdgeTable
  table = edge_table edges lists

  pub list_within : (label : Label) (e : EdgeId) → Contains (get_or lists label.0 []) e → label.0 < labels
  list_within label e c = omega (arith, none_listed lists label.0 e c, t.lists_of)

  pub edge_within : (label : Label) (e : EdgeId) → Contains (get_or lists label.0 []) e → e.0 < length edges
  edge_within label e c = All-contains (λ (edge : EdgeId). edge.0 < length edges) (get_or lists label.0 []) e (t.woven.edges_in label) c

  pub linked_where : (label : Label) (e : EdgeId) → Contains (get_or lists label.0 []) e → end_of (edge_table edges lists) e ≡ label
  linked_where label e c = All-contains (λ (edge : EdgeId). end_of (edge_table edges lists) edge ≡ label) (get_or lists label.0 []) e (t.woven.ends label) c

  pub linked_if : (label : Label) (e : EdgeId) → Contains (get_or lists label.0 []) e → IsLinked (edge_table edges lists) e
  linked_if label e c = subst (λ (l : Label). Contains (get_or lists l.0 []) e) (sym (linked_where label e c)) c

  -- a node of a ring is one of the array
  pub node_within : (n x : ℕ) → n < labels → Contains (n ∷ nodes_of labels (get_or lists n [])) x → x < length nodes
  node_within n x within c = ⊎_elim
      (λ same. omega (arith, same, t.nodes_for))
      (λ more.
      let e = node-edge labels (get_or lists n []) x more in
      let inside = edge_within (label_of n) e.edge e.listed in
      omega (arith, inside, e.node, t.nodes_for))
      (contains-cases n x (nodes_of labels (get_or lists n [])) c)

  -- no label's node is an edge's
  pub label_apart : (n m : ℕ) → n < labels → Contains (nodes_of labels (get_or lists m [])) n → ⊥
  label_apart n m within c =
      let e = node-edge labels (get_or lists m []) n c in
      let node : labels + e.edge.0 ≡ n = e.node in
      omega arith

  -- no node is in two rings
  pub rings_apart : (n m x : ℕ) → n < labels → m < labels → m ≢ n → Contains (n ∷ nodes_of labels (get_or lists n [])) x →
      Contains (m ∷ nodes_of labels (get_or lists m [])) x → ⊥
  rings_apart n m x n_in m_in other cn cm = ⊎_elim
      (λ (xn : n ≡ x). ⊎_elim
      (λ (xm : m ≡ x). other (xm ∙ sym xn))
      (λ more. label_apart n m n_in (subst (Contains (nodes_of labels (get_or lists m []))) (sym xn) more))
      (contains-cases m x (nodes_of labels (get_or lists m [])) cm))
      (λ in_n. ⊎_elim
      (λ (xm : m ≡ x). label_apart m n m_in (subst (Contains (nodes_of labels (get_or lists n []))) (sym xm) in_n))
      (λ in_m.
      let e = node-edge labels (get_or lists n []) x in_n in
      let f = node-edge labels (get_or lists m []) x in_m in
      let number : f.edge.0 ≡ e.edge.0 = omega (arith, e.node, f.node) in
      let same : f.edge ≡ e.edge = same_edge f.edge e.edge number in
      let one : label_of m ≡ label_of n = sym (linked_where (label_of m) f.edge f.listed) ∙ ap (end_of table) same
      ∙ linked_where (label_of n) e.edge e.listed in
      other (ap (λ (l : Label). l.0) one))
      (contains-cases m x (nodes_of labels (get_or lists m [])) cm))
      (contains-cases n x (nodes_of labels (get_or lists n [])) cn)

  -- one list is replaced
  pub threaded_set : (nodes' : List Node) (n : ℕ) (list : List EdgeId) (count : ℕ) → n < labels → length nodes' ≡ length nodes → count ≡ length list →
      Chain nodes' n (nodes_of labels list) n → ((m : ℕ) → m < labels → m ≢ n → Chain nodes' m (nodes_of labels (get_or lists m [])) m) →
      All (λ edge. edge.0 < length edges) list → All (λ edge. end_of (edge_table edges lists) edge ≡ label_of n) list →
      AllPairs (λ one other. one ≢ other) list → IsThreaded labels nodes' (slice_set counts n count) edges (slice_set lists n list)
  threaded_set nodes' n list count within size is here there edges_in ends once =
      let n_in : n < length lists = omega (arith, t.lists_of) in
      let n_in' : n < length counts = omega (arith, t.counts_of) in
      record {
        lists_of = length-set lists n list ∙ t.lists_of;
        counts_of = length-set counts n count ∙ t.counts_of;
        nodes_for = size ∙ t.nodes_for;
        few = t.few;
        counted = λ m m_in. ⊎_elim
            (λ (same : m ≡ n).
            ap (λ k. get_or (slice_set counts n count) k 0) same ∙ get_or-set_same counts n count 0 n_in' ∙ is
            ∙ ap length (sym (get_or-set_same lists n list [] n_in) ∙ ap (λ k. get_or (slice_set lists n list) k []) (sym same)))
            (λ other. get_or-set_other counts n m count 0 other ∙ t.counted m m_in ∙ ap length (sym (get_or-set_other lists n m list [] other)))
            (cases_eq m n);
        chained = λ m m_in. ⊎_elim
            (λ (same : m ≡ n).
            subst (λ k. Chain nodes' k (nodes_of labels (get_or (slice_set lists n list) k [])) k) (sym same)
            (subst (λ xs. Chain nodes' n (nodes_of labels xs) n) (sym (get_or-set_same lists n list [] n_in)) here))
            (λ other. subst (λ xs. Chain nodes' m (nodes_of labels xs) m) (sym (get_or-set_other lists n m list [] other)) (there m m_in other))
            (cases_eq m n);
        woven = woven_set edges lists t.woven n list n_in edges_in ends once;
      }

  -- ---- an edge taken out

  ring_member : (n x : ℕ) (path : List ℕ) → Contains (path ++ n ∷ []) x → Contains (n ∷ path) x
  ring_member n x path c = ⊎_elim
      (λ one. contains-tail n x path one)
      (λ last. subst (Contains (n ∷ path)) (contains-one n x last) (contains-head n path))
      (Contains-append_cases path (n ∷ []) x c)

  pub before_member : (n : ℕ) (e : EdgeId) → n < labels → Contains (get_or lists n []) e →
      Contains (n ∷ nodes_of labels (get_or lists n [])) (before_of nodes (labels + e.0))
  before_member n e within c = chain_before nodes n (nodes_of labels (get_or lists n [])) n (labels + e.0) (t.chained n within)
      (nodes-contain labels (get_or lists n []) e c)

  pub after_member : (n : ℕ) (e : EdgeId) → n < labels → Contains (get_or lists n []) e →
      Contains (n ∷ nodes_of labels (get_or lists n [])) (after_of nodes (labels + e.0))
  after_member n e within c = ring_member n (after_of nodes (labels + e.0)) (nodes_of labels (get_or lists n []))
      (chain_after nodes n (nodes_of labels (get_or lists n [])) n (labels + e.0) (t.chained n within) (nodes-contain labels (get_or lists n []) e c))

  pub threaded_out : (n : ℕ) (e : EdgeId) → n < labels → Contains (get_or lists n []) e →
      IsThreaded labels (lead nodes (before_of nodes (labels + e.0)) (after_of nodes (labels + e.0))) (slice_set counts n (get_or counts n 0 - 1)) edges
      (slice_set lists n (without e (get_or lists n [])))
  threaded_out n e within c =
      let list = get_or lists n [] in
      let x = labels + e.0 in
      let p = before_of nodes x in
      let q = after_of nodes x in
      let p_at = before_member n e within c in
      let q_at = after_member n e within c in
      let p_in = node_within n p within p_at in
      let q_in = node_within n q within q_at in
      let no_label = label_apart n n within in
      let once = t.woven.once (label_of n) in
      let counts_less : get_or counts n 0 - 1 ≡ length (without e list) = omega (arith, t.counted n within, without-count e list once c) in
      let chain = cut nodes n (nodes_of labels list) n x p q refl refl p_in q_in (t.chained n within) (nodes-contain labels list e c) no_label no_label
      (nodes-apart labels list once) in
      threaded_set (lead nodes p q) n (without e list) (get_or counts n 0 - 1) within (length-lead nodes p q) counts_less
      (subst (λ path. Chain (lead nodes p q) n path n) (sym (nodes-without labels e list)) chain)
      (λ m m_in other. chain_lead nodes p q p_in q_in m (nodes_of labels (get_or lists m [])) m (t.chained m m_in)
      (λ h. rings_apart n m p within m_in other p_at
      (subst (Contains (m ∷ nodes_of labels (get_or lists m []))) h (contains-head m (nodes_of labels (get_or lists m [])))))
      (λ h. rings_apart n m q within m_in other q_at
      (subst (Contains (m ∷ nodes_of labels (get_or lists m []))) h (contains-head m (nodes_of labels (get_or lists m [])))))
      (λ k. rings_apart n m p within m_in other p_at (contains-tail m p (nodes_of labels (get_or lists m [])) k))
      (λ k. rings_apart n m q within m_in other q_at (contains-tail m q (nodes_of labels (get_or lists m [])) k)))
      (all-from_contains (λ (edge : EdgeId). edge.0 < length edges) (without e list) (λ y k. edge_within (label_of n) y (without-contains e y list k).0))
      (all-from_contains (λ (edge : EdgeId). end_of table edge ≡ label_of n) (without e list)
      (λ y k. linked_where (label_of n) y (without-contains e y list k).0))
      (without-once e list once)

  -- ---- an edge put in

  pub last_member : (n : ℕ) → n < labels → Contains (n ∷ nodes_of labels (get_or lists n [])) (before_of nodes n)
  last_member n within = chain_last nodes n (nodes_of labels (get_or lists n [])) n (t.chained n within)

  pub fresh_node : (n : ℕ) (e : EdgeId) → (IsLinked (edge_table edges lists) e → ⊥) → Contains (nodes_of labels (get_or lists n [])) (labels + e.0) → ⊥
  fresh_node n e free c = free (linked_if (label_of n) e (nodes-listed labels (get_or lists n []) e c))

  pub list_few : (n : ℕ) → length (get_or lists n []) ≤ length edges
  list_few n = few_edges (length edges) (get_or lists n []) (t.woven.once (label_of n)) (t.woven.edges_in (label_of n))

  pub threaded_in : (n : ℕ) (e : EdgeId) → n < labels → e.0 < length edges → end_of (edge_table edges lists) e ≡ label_of n →
      (IsLinked (edge_table edges lists) e → ⊥) →
      IsThreaded labels (lead_both nodes (before_of nodes n) (labels + e.0) n) (slice_set counts n (get_or counts n 0 + 1)) edges
      (slice_set lists n (get_or lists n [] ++ e ∷ []))
  threaded_in n e within e_in to free =
      let list = get_or lists n [] in
      let x = labels + e.0 in
      let p = before_of nodes n in
      let p_at = last_member n within in
      let p_in = node_within n p within p_at in
      let n_in : n < length nodes = omega (arith, t.nodes_for) in
      let x_in : x < length nodes = omega (arith, t.nodes_for) in
      let one = lead nodes p x in
      let x_in' : x < length one = omega (arith, length-lead nodes p x) in
      let n_in' : n < length one = omega (arith, length-lead nodes p x) in
      let nx : n ≢ x = omega arith in
      let no_label = label_apart n n within in
      let once = t.woven.once (label_of n) in
      let new : Contains list e → ⊥ = λ k. free (linked_if (label_of n) e k) in
      let more : get_or counts n 0 + 1 ≡ length (list ++ e ∷ []) = omega (arith, t.counted n within, length-append list (e ∷ [])) in
      let chain = join nodes n (nodes_of labels list) n x p refl p_in x_in n_in (t.chained n within) nx nx (fresh_node n e free) no_label no_label
      (nodes-apart labels list once) in
      threaded_set (lead_both nodes p x n) n (list ++ e ∷ []) (get_or counts n 0 + 1) within (length-lead one x n ∙ length-lead nodes p x) more
      (subst (λ path. Chain (lead_both nodes p x n) n path n) (sym (nodes-append labels list e)) chain)
      (λ m m_in other.
      let path = nodes_of labels (get_or lists m []) in
      let n_at = contains-head n (nodes_of labels list) in
      let mx : m ≢ x = omega arith in
      chain_lead one x n x_in' n_in' m path m
      (chain_lead nodes p x p_in x_in m path m (t.chained m m_in)
      (λ h. rings_apart n m p within m_in other p_at (subst (Contains (m ∷ path)) h (contains-head m path)))
      mx
      (λ k. rings_apart n m p within m_in other p_at (contains-tail m p path k))
      (fresh_node m e free))
      mx
      (λ h. other h)
      (fresh_node m e free)
      (λ k. rings_apart n m n within m_in other n_at (contains-tail m n path k)))
      (All-push (λ (edge : EdgeId). edge.0 < length edges) list e (t.woven.edges_in (label_of n)) e_in)
      (All-push (λ (edge : EdgeId). end_of table edge ≡ label_of n) list e (t.woven.ends (label_of n)) to)
      (append-once list e new once)

  -- ---- an edge led elsewhere

  pub threaded_to : (e : EdgeId) (label : Label) → label.0 < labels → e.0 < length edges → (IsLinked (edge_table edges lists) e → ⊥) →
      IsThreaded labels nodes counts (slice_set edges e.0 ((edge_of (edge_table edges lists) e).0, label)) lists
  threaded_to e label within e_in free =
      let from : Label = (edge_of table e).0 in
      let edge : Label × Label = (from, label) in
      let edges' = slice_set edges e.0 edge in
      let size = length-set edges e.0 edge in
      let none = label_of 0 in
      let labels' : length lists ≡ labels = t.lists_of in
      let into : IsInto (length lists) edge = omega arith in
      record {
        lists_of = t.lists_of;
        counts_of = t.counts_of;
        nodes_for = t.nodes_for ∙ ap (λ n. labels + n) (sym size);
        few = omega (arith, t.few, size);
        counted = t.counted;
        chained = t.chained;
        woven = record {
          into = All-set (IsInto (length lists)) edges e.0 edge into t.woven.into;
          edges_in = λ l. subst (λ n. All (λ (edge : EdgeId). edge.0 < n) (get_or lists l.0 [])) (sym size) (t.woven.edges_in l);
          ends = λ l. all-from_contains (λ (y : EdgeId). end_of (edge_table edges' lists) y ≡ l) (get_or lists l.0 []) (λ y c.
              let other : y.0 ≢ e.0 = λ same. free (linked_if l e (subst (Contains (get_or lists l.0 [])) (same_edge y e same) c)) in
              ap (λ (b : Label × Label). b.1) (get_or-set_other edges e.0 y.0 edge (none, none) other) ∙ linked_where l y c);
          once = t.woven.once;
        };
      }

  -- ---- what the nodes are seen as

  pub threaded_view : walks labels nodes counts ≡ lists
  threaded_view =
      let f = λ (n : ℕ). walk labels nodes (get_or counts n 0) (after_of nodes n) in
      same_lists _ lists (length-map-range_with_len f 0 labels ∙ sym t.lists_of) (λ k d h.
      let within : k < labels = omega (arith, length-map-range_with_len f 0 labels) in
      let inside : k < length lists = omega (arith, t.lists_of) in
      get_or-map-range_with_len f 0 labels k k d within (omega arith)
      ∙ ap (λ n. walk labels nodes n (after_of nodes k)) (t.counted k within)
      ∙ walk_chain (get_or lists k []) k k (t.chained k within)
      ∙ get_or_default lists k [] d inside)
    where
      walk_chain : (list : List EdgeId) (a z : ℕ) → Chain nodes a (nodes_of labels list) z → walk labels nodes (length list) (after_of nodes a) ≡ list
      walk_chain [] a z c = refl
      walk_chain (e ∷ list) a z c =
          ap (λ at. record { 0 = at - labels } ∷ walk labels nodes (length list) (after_of nodes at)) c.0
          ∙ ap₂ ◌∷◌ (same_edge (record { 0 = labels + e.0 - labels }) e (omega arith)) (walk_chain list (labels + e.0) z c.2)

  -- ---- what is read

  pub first_within : (n : ℕ) → n < labels → after_of nodes n < labels + 2 ^ 32
  first_within n within =
      let path = nodes_of labels (get_or lists n []) in
      let at = ring_member n (after_of nodes n) path (chain_first nodes n path n (t.chained n within)) in
      let inside = node_within n (after_of nodes n) within at in
      omega (arith, inside, t.nodes_for, t.few)

  pub first_edge : (n : ℕ) → n < labels → edge_at labels (after_of nodes n) ≡ slice_get (get_or lists n []) 0
  first_edge n within = chain_read labels nodes (get_or lists n []) n n (t.chained n within) within

  pub next_within : (n : ℕ) (e : EdgeId) → n < labels → Contains (get_or lists n []) e → after_of nodes (labels + e.0) < labels + 2 ^ 32
  next_within n e within c =
      let inside = node_within n (after_of nodes (labels + e.0)) within (after_member n e within c) in
      omega (arith, inside, t.nodes_for, t.few)

  pub next_edge : (n k : ℕ) (e : EdgeId) → n < labels → slice_get (get_or lists n []) k ≡ Some e →
      edge_at labels (after_of nodes (labels + e.0)) ≡ slice_get (get_or lists n []) (k + 1)
  next_edge n k e within at = chain_next labels nodes (get_or lists n []) n n k e (t.chained n within) within at
      ∙ ap (slice_get (get_or lists n [])) (omega arith)

-- ---- what is seen

-- the fields of the lists, and what these are seen as
pub record Seen (nodes : List Node) (counts : List ℕ) (edges : List (Label × Label)) (as_table : EdgeTable) : Type 0 where
  pub threaded : IsThreaded (length counts) nodes counts edges (walks (length counts) nodes counts)
  pub view : table_of nodes counts edges ≡ as_table

pub seen : (labels : ℕ) (nodes : List Node) (counts : List ℕ) (edges : List (Label × Label)) (lists : List (List EdgeId)) →
    IsThreaded labels nodes counts edges lists → Seen nodes counts edges (edge_table edges lists)
seen labels nodes counts edges lists t =
    let size : labels ≡ length counts = sym t.counts_of in
    let t' : IsThreaded (length counts) nodes counts edges lists = subst (λ n. IsThreaded n nodes counts edges lists) size t in
    let view : walks (length counts) nodes counts ≡ lists = threaded_view (length counts) nodes counts edges lists t' in
    record {
      threaded = subst (λ xs. IsThreaded (length counts) nodes counts edges xs) (sym view) t';
      view = ap (edge_table edges) view;
    }

module _ (nodes : List Node) (counts : List ℕ) (edges : List (Label × Label))
    (t : IsThreaded (length counts) nodes counts edges (walks (length counts) nodes counts)) (e : EdgeId) where
  abbrev now : EdgeTable
  now = table_of nodes counts edges

  abbrev to : ℕ
  to = (end_of (table_of nodes counts edges) e).0

  abbrev at : ℕ
  at = length counts + e.0

  pub end_within : IsLinked (table_of nodes counts edges) e → (end_of (table_of nodes counts edges) e).0 < length counts
  end_within linked = list_within (length counts) nodes counts edges now.lists t (end_of now e) e linked

  pub unlink_seen : IsLinked (table_of nodes counts edges) e →
      Seen (lead nodes (before_of nodes (length counts + e.0)) (after_of nodes (length counts + e.0)))
      (slice_set counts (end_of (table_of nodes counts edges) e).0 (get_or counts (end_of (table_of nodes counts edges) e).0 0 - 1)) edges
      (unlinked (table_of nodes counts edges) e)
  unlink_seen linked =
      seen (length counts) (lead nodes (before_of nodes at) (after_of nodes at)) (slice_set counts to (get_or counts to 0 - 1)) edges (unlinked now e).lists
      (threaded_out (length counts) nodes counts edges now.lists t to e (end_within linked) linked)

  -- an edge leads to a label
  pub into_labels : e.0 < length edges → (end_of (table_of nodes counts edges) e).0 < length counts
  into_labels within =
      let h : to < length now.lists = t.woven.into e.0 (label_of 0, label_of 0) within in
      omega (arith, t.lists_of)

  pub link_seen : e.0 < length edges → (IsLinked (table_of nodes counts edges) e → ⊥) →
      Seen (lead (lead nodes (before_of nodes (end_of (table_of nodes counts edges) e).0) (length counts + e.0)) (length counts + e.0)
      (end_of (table_of nodes counts edges) e).0)
      (slice_set counts (end_of (table_of nodes counts edges) e).0 (get_or counts (end_of (table_of nodes counts edges) e).0 0 + 1)) edges
      (linked (table_of nodes counts edges) e)
  link_seen within free =
      seen (length counts) (lead_both nodes (before_of nodes to) at to) (slice_set counts to (get_or counts to 0 + 1)) edges (linked now e).lists
      (threaded_in (length counts) nodes counts edges now.lists t to e (into_labels within) within refl free)

  pub lead_seen : (label : Label) → label.0 < length (walks (length counts) nodes counts) → e.0 < length edges →
      (IsLinked (table_of nodes counts edges) e → ⊥) →
      Seen nodes counts (slice_set edges e.0 ((edge_of (table_of nodes counts edges) e).0, label)) (led_to (table_of nodes counts edges) e label)
  lead_seen label label_in within free =
      seen (length counts) nodes counts (slice_set edges e.0 ((edge_of now e).0, label)) now.lists
      (threaded_to (length counts) nodes counts edges now.lists t e label (omega (arith, t.lists_of)) within free)

  pub few_counted : e.0 < length edges → (IsLinked (table_of nodes counts edges) e → ⊥) → get_or counts (end_of (table_of nodes counts edges) e).0 0 + 1
      < 2 ^ 32
  few_counted within free =
      let s = threaded_in (length counts) nodes counts edges now.lists t to e (into_labels within) within refl free in
      let more = list_few (length counts) (lead_both nodes (before_of nodes to) at to) (slice_set counts to (get_or counts to 0 + 1)) edges
      (linked now e).lists s to in
      let count = s.counted to (into_labels within) in
      let read = get_or-set_same counts to (get_or counts to 0 + 1) 0 (into_labels within) in
      omega (arith, more, count, read, t.few)

-- ---- an edge that is not linked

pub unlinked_free : (v : EdgeTable) (e : EdgeId) → IsLinked v e → IsLinked (unlinked v e) e → ⊥
unlinked_free v e linked c =
    let n = (end_of v e).0 in
    let list = get_or v.lists n [] in
    without-gone e list (subst (λ xs. Contains xs e) (get_or-set_same v.lists n (without e list) [] (none_listed v.lists n e linked)) c)

pub led_free : (v : EdgeTable) (e : EdgeId) (label : Label) → IsWoven v → e.0 < length v.edges → (IsLinked v e → ⊥) → IsLinked (led_to v e label) e → ⊥
led_free v e label w within free c =
    let none = label_of 0 in
    let ends : end_of (led_to v e label) e
    ≡ label = ap (λ (b : Label × Label). b.1) (get_or-set_same v.edges e.0 ((edge_of v e).0, label) (none, none) within) in
    let there : Contains (get_or v.lists label.0 []) e = subst (λ (l : Label). Contains (get_or v.lists l.0 []) e) ends c in
    let was : end_of v e ≡ label = All-contains (λ (edge : EdgeId). end_of v edge ≡ label) (get_or v.lists label.0 []) e (w.ends label) there in
    free (subst (λ (l : Label). Contains (get_or v.lists l.0 []) e) (sym was) there)
