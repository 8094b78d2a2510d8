-- What is in a list that is made from another.
use Rattle.std.proofs.Common.{◌≡◌, ◌≢◌, ℕ, zero, suc, ◌+◌, ◌<◌, ◌≤◌, Bool, not, cond, List, [], ◌∷◌, ◌++◌, length, refl, sym, ap, ◌∙◌, subst, ⊎_elim, arith}
use Rattle.std.specs.Prelude.{filter, Contains, All, AllPairs, nat_eq}
use Rattle.std.proofs.lemmas.List.Elements.{All-head, All-contains, Contains-get_or}
use Rattle.std.proofs.lemmas.List.Kept.{AllPairs-filter}
use Rattle.std.proofs.lemmas.Bool.{cases_eq, eq-eqb, ne_eqb}
use Rattle.std.proofs.lemmas.List.Quantifiers.{all_pairs_push}
use Rattle.cj_ir.proofs.Members.{contains-none, contains-head, contains-tail, contains-cases, all-from_contains}
use Rattle.cj_links.specs.declared.edges.EdgeId.{EdgeId}
use Rattle.cj_links.specs.EdgeTable.{without}
use Rattle.cj_links.specs.Threads.{nodes_of}

pub same_edge : (x y : EdgeId) → x.0 ≡ y.0 → x ≡ y
same_edge x y e = ap edge e
  where
    edge : ℕ → EdgeId
    edge n = record { 0 = n }

-- ---- numbers of which none comes twice

abbrev pub Apart : List ℕ → Type 0
Apart [] = Unit {0}
Apart (x ∷ xs) = (Contains xs x → ⊥) × Apart xs

pub once-head : {X : Type 0} (x : X) (xs : List X) → AllPairs (λ one other. one ≢ other) (x ∷ xs) → Contains xs x → ⊥
once-head x xs once c = once 0 (suc c.0) x (omega arith) (let h = c.1 in omega arith) (sym c.2)

pub once-tail : {X : Type 0} (x : X) (xs : List X) → AllPairs (λ one other. one ≢ other) (x ∷ xs) → AllPairs (λ one other. one ≢ other) xs
once-tail x xs once = λ i j d lt within. once (suc i) (suc j) d (omega arith) (omega arith)

pub once-nil : {X : Type 0} → AllPairs {X = X} (λ one other. one ≢ other) []
once-nil = λ i j d lt within. absurd (omega arith)

-- ---- the nodes of edges

pub nodes-contain : (labels : ℕ) (list : List EdgeId) (e : EdgeId) → Contains list e → Contains (nodes_of labels list) (labels + e.0)
nodes-contain labels [] e c = absurd (contains-none e c)
nodes-contain labels (x ∷ list) e c = ⊎_elim
    (λ same. subst (λ (y : EdgeId). Contains (nodes_of labels (x ∷ list)) (labels + y.0)) same (contains-head (labels + x.0) (nodes_of labels list)))
    (λ more. contains-tail (labels + x.0) (labels + e.0) (nodes_of labels list) (nodes-contain labels list e more))
    (contains-cases x e list c)

-- the edge of a node
pub record NodeOf (labels : ℕ) (list : List EdgeId) (at : ℕ) : Type 0 where
  pub edge : EdgeId
  pub listed : Contains list edge
  pub node : labels + edge.0 ≡ at

pub node-edge : (labels : ℕ) (list : List EdgeId) (at : ℕ) → Contains (nodes_of labels list) at → NodeOf labels list at
node-edge labels [] at c = absurd (contains-none at c)
node-edge labels (x ∷ list) at c = ⊎_elim
    (λ same. record { edge = x; listed = contains-head x list; node = same })
    (λ more. let rest = node-edge labels list at more in record { edge = rest.edge; listed = contains-tail x rest.edge list rest.listed; node = rest.node })
    (contains-cases (labels + x.0) at (nodes_of labels list) c)

pub nodes-listed : (labels : ℕ) (list : List EdgeId) (e : EdgeId) → Contains (nodes_of labels list) (labels + e.0) → Contains list e
nodes-listed labels list e c =
    let found = node-edge labels list (labels + e.0) c in
    let number : found.edge.0 ≡ e.0 = omega (arith, found.node) in
    subst (Contains list) (same_edge found.edge e number) found.listed

pub nodes-apart : (labels : ℕ) (list : List EdgeId) → AllPairs (λ one other. one ≢ other) list → Apart (nodes_of labels list)
nodes-apart labels [] once = tt
nodes-apart labels (x ∷ list) once =
    (λ c. once-head x list once (nodes-listed labels list x c), nodes-apart labels list (once-tail x list once))

-- ---- an edge taken out

pub without-same : (e x : EdgeId) (list : List EdgeId) → x.0 ≡ e.0 → without e (x ∷ list) ≡ without e list
without-same e x list same = ap (λ (b : Bool). cond (not b) (x ∷ without e list) (without e list)) (eq-eqb x.0 e.0 same)

pub without-other : (e x : EdgeId) (list : List EdgeId) → (x.0 ≡ e.0 → ⊥) → without e (x ∷ list) ≡ x ∷ without e list
without-other e x list other = ap (λ (b : Bool). cond (not b) (x ∷ without e list) (without e list)) (ne_eqb x.0 e.0 other)

pub without-absent : (e : EdgeId) (list : List EdgeId) → (Contains list e → ⊥) → without e list ≡ list
without-absent e [] absent = refl
without-absent e (x ∷ list) absent =
    without-other e x list (λ same. absent (subst (Contains (x ∷ list)) (same_edge x e same) (contains-head x list)))
    ∙ ap (λ (rest : List EdgeId). x ∷ rest) (without-absent e list (λ c. absent (contains-tail x e list c)))

-- what is left was there, and is another edge
pub without-contains : (e x : EdgeId) (list : List EdgeId) → Contains (without e list) x → Contains list x × (x.0 ≢ e.0)
without-contains e x [] c = absurd (contains-none x c)
without-contains e x (y ∷ list) c = ⊎_elim
    (λ same. let rest = without-contains e x list (subst (λ xs. Contains xs x) (without-same e y list same) c) in (contains-tail y x list rest.0, rest.1))
    (λ other. ⊎_elim
    (λ head. (subst (Contains (y ∷ list)) head (contains-head y list), λ z. other (ap (λ (w : EdgeId). w.0) head ∙ z)))
    (λ more. let rest = without-contains e x list more in (contains-tail y x list rest.0, rest.1))
    (contains-cases y x (without e list) (subst (λ xs. Contains xs x) (without-other e y list other) c)))
    (cases_eq y.0 e.0)

pub without-gone : (e : EdgeId) (list : List EdgeId) → Contains (without e list) e → ⊥
without-gone e list c = (without-contains e e list c).1 refl

pub without-once : (e : EdgeId) (list : List EdgeId) → AllPairs (λ one other. one ≢ other) list → AllPairs (λ one other. one ≢ other) (without e list)
without-once e list once = AllPairs-filter (λ one other. one ≢ other) (λ (other : EdgeId). not (nat_eq other.0 e.0)) list once

pub without-count : (e : EdgeId) (list : List EdgeId) → AllPairs (λ one other. one ≢ other) list → Contains list e → length (without e list) + 1 ≡ length list
without-count e [] once c = absurd (contains-none e c)
without-count e (x ∷ list) once c = ⊎_elim
    (λ same.
    let absent : Contains list e → ⊥ = λ more. once-head x list once (subst (Contains list) (sym (same_edge x e same)) more) in
    let gone : length (without e (x ∷ list)) ≡ length list = ap length (without-same e x list same ∙ without-absent e list absent) in
    omega (arith, gone))
    (λ other.
    let kept : length (without e (x ∷ list)) ≡ suc (length (without e list)) = ap length (without-other e x list other) in
    let rest : Contains list e = ⊎_elim (λ head. absurd (other (ap (λ (w : EdgeId). w.0) head))) (λ more. more) (contains-cases x e list c) in
    omega (arith, kept, without-count e list (once-tail x list once) rest))
    (cases_eq x.0 e.0)

pub without-most : (e : EdgeId) (list : List EdgeId) → AllPairs (λ one other. one ≢ other) list → length list ≤ length (without e list) + 1
without-most e [] once = omega arith
without-most e (x ∷ list) once = ⊎_elim
    (λ same.
    let absent : Contains list e → ⊥ = λ more. once-head x list once (subst (Contains list) (sym (same_edge x e same)) more) in
    let gone : length (without e (x ∷ list)) ≡ length list = ap length (without-same e x list same ∙ without-absent e list absent) in
    omega (arith, gone))
    (λ other.
    let kept : length (without e (x ∷ list)) ≡ suc (length (without e list)) = ap length (without-other e x list other) in
    omega (arith, kept, without-most e list (once-tail x list once)))
    (cases_eq x.0 e.0)

-- of numbers below n, each once, there are at most n
pub few_edges : (n : ℕ) (list : List EdgeId) → AllPairs (λ one other. one ≢ other) list → All (λ edge. edge.0 < n) list → length list ≤ n
few_edges zero [] once below = omega arith
few_edges zero (x ∷ list) once below = let h : x.0 < 0 = All-head (λ (edge : EdgeId). edge.0 < 0) x list below in absurd (omega arith)
few_edges (suc n) list once below =
    let last : EdgeId = record { 0 = n } in
    let below' : All (λ (edge : EdgeId). edge.0 < n) (without last list) = all-from_contains (λ (edge : EdgeId). edge.0 < n) (without last list) (λ x c.
    let was = without-contains last x list c in
    let h : x.0 < suc n = All-contains (λ (edge : EdgeId). edge.0 < suc n) list x below was.0 in
    let ne : x.0 ≢ n = was.1 in
    omega arith) in
    omega (arith, few_edges n (without last list) (without-once last list once) below', without-most last list once)

-- ---- an edge appended

pub append-once : (list : List EdgeId) (e : EdgeId) → (Contains list e → ⊥) → AllPairs (λ one other. one ≢ other) list →
    AllPairs (λ one other. one ≢ other) (list ++ e ∷ [])
append-once list e new once = all_pairs_push (λ (one other : EdgeId). one ≢ other) list e once
    (λ k d lt same. new (subst (Contains list) same (Contains-get_or list k d lt)))

-- ---- the nodes of what is left, and of one more

pub nodes-without : (labels : ℕ) (e : EdgeId) (list : List EdgeId) →
    nodes_of labels (without e list) ≡ filter (λ at. not (nat_eq at (labels + e.0))) (nodes_of labels list)
nodes-without labels e [] = refl
nodes-without labels e (x ∷ list) = ⊎_elim
    (λ same.
    let node : labels + x.0 ≡ labels + e.0 = ap (λ n. labels + n) same in
    ap (nodes_of labels) (without-same e x list same) ∙ nodes-without labels e list
    ∙ ap (λ (b : Bool). cond (not b) ((labels + x.0) ∷ rest list) (rest list)) (sym (eq-eqb (labels + x.0) (labels + e.0) node)))
    (λ other.
    let node : labels + x.0 ≡ labels + e.0 → ⊥ = λ h. other (omega arith) in
    ap (nodes_of labels) (without-other e x list other) ∙ ap (λ (ns : List ℕ). (labels + x.0) ∷ ns) (nodes-without labels e list)
    ∙ ap (λ (b : Bool). cond (not b) ((labels + x.0) ∷ rest list) (rest list)) (sym (ne_eqb (labels + x.0) (labels + e.0) node)))
    (cases_eq x.0 e.0)
  where
    rest : List EdgeId → List ℕ
    rest xs = filter (λ at. not (nat_eq at (labels + e.0))) (nodes_of labels xs)

pub nodes-append : (labels : ℕ) (list : List EdgeId) (e : EdgeId) → nodes_of labels (list ++ e ∷ []) ≡ nodes_of labels list ++ (labels + e.0) ∷ []
nodes-append labels [] e = refl
nodes-append labels (x ∷ list) e = ap (λ (ns : List ℕ). (labels + x.0) ∷ ns) (nodes-append labels list e)
