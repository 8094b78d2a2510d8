-- Chains of nodes, as one node is led to another.
use Rattle.std.proofs.Common.{◌≡◌, ◌≢◌, ℕ, ◌<◌, Bool, not, cond, List, [], ◌∷◌, ◌++◌, length, get_or, refl, sym, ap, ◌∙◌, subst, ⊎_elim, arith, length-set}
use Rattle.std.proofs.Common.{get_or-set_same, get_or-set_other}
use Rattle.std.specs.Prelude.{filter, Contains, slice_set, nat_eq}
use Rattle.std.proofs.lemmas.Bool.{cases_eq, eq-eqb, ne_eqb}
use Rattle.cj_links.specs.declared.edges.Node.{Node}
use Rattle.cj_links.specs.Threads.{node, after_of, before_of, with_after, lead, Chain}
use Rattle.std.proofs.lemmas.List.Elements.{Contains-append_cases}
use Rattle.cj_ir.proofs.Members.{contains-none, contains-one, contains-head, contains-tail, contains-cases}
use Rattle.cj_links.proofs.Members.{Apart}

-- ---- one node led to another

set_node : (nodes : List Node) (at : ℕ) (v : Node) → at < length nodes → get_or (slice_set nodes at v) at (node 0 0) ≡ v
set_node nodes at v h = get_or-set_same nodes at v (node 0 0) h

other_node : (nodes : List Node) (at i : ℕ) (v : Node) → i ≢ at → get_or (slice_set nodes at v) i (node 0 0) ≡ get_or nodes i (node 0 0)
other_node nodes at i v h = get_or-set_other nodes at i v (node 0 0) h

pub length-lead : (nodes : List Node) (p q : ℕ) → length (lead nodes p q) ≡ length nodes
length-lead nodes p q = length-set (with_after nodes p q) q _ ∙ length-set nodes p _

module _ (nodes : List Node) (p q : ℕ) (p_in : p < length nodes) (q_in : q < length nodes) where
  q_in' : q < length (with_after nodes p q)
  q_in' = omega (arith, length-set nodes p (node (before_of nodes p) q))

  -- the second write keeps what follows each node
  after_second : (i : ℕ) → after_of (lead nodes p q) i ≡ after_of (with_after nodes p q) i
  after_second i = ⊎_elim
      (λ same. ap (λ n. after_of (lead nodes p q) n) same
      ∙ ap (λ (v : Node). v.after) (set_node (with_after nodes p q) q (node p (after_of (with_after nodes p q) q)) q_in')
      ∙ ap (λ n. after_of (with_after nodes p q) n) (sym same))
      (λ other. ap (λ (v : Node). v.after) (other_node (with_after nodes p q) q i (node p (after_of (with_after nodes p q) q)) other))
      (cases_eq i q)

  -- the first write keeps what comes before each node
  before_first : (i : ℕ) → before_of (with_after nodes p q) i ≡ before_of nodes i
  before_first i = ⊎_elim
      (λ same. ap (λ n. before_of (with_after nodes p q) n) same
      ∙ ap (λ (v : Node). v.before) (set_node nodes p (node (before_of nodes p) q) p_in)
      ∙ ap (λ n. before_of nodes n) (sym same))
      (λ other. ap (λ (v : Node). v.before) (other_node nodes p i (node (before_of nodes p) q) other))
      (cases_eq i p)

  pub after_lead : after_of (lead nodes p q) p ≡ q
  after_lead = after_second p ∙ ap (λ (v : Node). v.after) (set_node nodes p (node (before_of nodes p) q) p_in)

  pub after_lead_other : (i : ℕ) → i ≢ p → after_of (lead nodes p q) i ≡ after_of nodes i
  after_lead_other i h = after_second i ∙ ap (λ (v : Node). v.after) (other_node nodes p i (node (before_of nodes p) q) h)

  pub before_lead : before_of (lead nodes p q) q ≡ p
  before_lead = ap (λ (v : Node). v.before) (set_node (with_after nodes p q) q (node p (after_of (with_after nodes p q) q)) q_in')

  pub before_lead_other : (i : ℕ) → i ≢ q → before_of (lead nodes p q) i ≡ before_of nodes i
  before_lead_other i h =
      ap (λ (v : Node). v.before) (other_node (with_after nodes p q) q i (node p (after_of (with_after nodes p q) q)) h) ∙ before_first i

  -- a chain without the two stays
  pub chain_lead : (a : ℕ) (path : List ℕ) (z : ℕ) → Chain nodes a path z → a ≢ p → z ≢ q → (Contains path p → ⊥) → (Contains path q → ⊥) →
      Chain (lead nodes p q) a path z
  chain_lead a [] z c ap' zq pp qq = (after_lead_other a ap' ∙ c.0, before_lead_other z zq ∙ c.1)
  chain_lead a (b ∷ path) z c ap' zq pp qq = (
    after_lead_other a ap' ∙ c.0,
    before_lead_other b (λ e. qq (subst (Contains (b ∷ path)) e (contains-head b path))) ∙ c.1,
    chain_lead b path z c.2 (λ e. pp (subst (Contains (b ∷ path)) e (contains-head b path))) zq (λ m. pp (contains-tail b p path m))
        (λ m. qq (contains-tail b q path m)),
  )

-- ---- what comes before and after

module _ (nodes : List Node) where
  pub chain_last : (a : ℕ) (path : List ℕ) (z : ℕ) → Chain nodes a path z → Contains (a ∷ path) (before_of nodes z)
  chain_last a [] z c = subst (Contains (a ∷ [])) (sym c.1) (contains-head a [])
  chain_last a (b ∷ path) z c = contains-tail a (before_of nodes z) (b ∷ path) (chain_last b path z c.2)

  pub chain_before : (a : ℕ) (path : List ℕ) (z x : ℕ) → Chain nodes a path z → Contains path x → Contains (a ∷ path) (before_of nodes x)
  chain_before a [] z x c m = absurd (contains-none x m)
  chain_before a (b ∷ path) z x c m = ⊎_elim
      (λ same. subst (Contains (a ∷ b ∷ path)) (sym (ap (before_of nodes) (sym same) ∙ c.1)) (contains-head a (b ∷ path)))
      (λ more. contains-tail a (before_of nodes x) (b ∷ path) (chain_before b path z x c.2 more))
      (contains-cases b x path m)

  pub chain_first : (a : ℕ) (path : List ℕ) (z : ℕ) → Chain nodes a path z → Contains (path ++ z ∷ []) (after_of nodes a)
  chain_first a [] z c = subst (Contains (z ∷ [])) (sym c.0) (contains-head z [])
  chain_first a (b ∷ path) z c = subst (Contains (b ∷ path ++ z ∷ [])) (sym c.0) (contains-head b (path ++ z ∷ []))

  pub chain_after : (a : ℕ) (path : List ℕ) (z x : ℕ) → Chain nodes a path z → Contains path x → Contains (path ++ z ∷ []) (after_of nodes x)
  chain_after a [] z x c m = absurd (contains-none x m)
  chain_after a (b ∷ path) z x c m = ⊎_elim
      (λ same. contains-tail b (after_of nodes x) (path ++ z ∷ []) (subst (λ y. Contains (path ++ z ∷ []) (after_of nodes y)) same (chain_first b path z c.2)))
      (λ more. contains-tail b (after_of nodes x) (path ++ z ∷ []) (chain_after b path z x c.2 more))
      (contains-cases b x path m)

-- ---- a node taken out

abbrev pub left_of : ℕ → List ℕ → List ℕ
left_of x path = filter (λ at. not (nat_eq at x)) path

left_same : (x b : ℕ) (path : List ℕ) → b ≡ x → left_of x (b ∷ path) ≡ left_of x path
left_same x b path e = ap (λ (t : Bool). cond (not t) (b ∷ left_of x path) (left_of x path)) (eq-eqb b x e)

left_other : (x b : ℕ) (path : List ℕ) → (b ≡ x → ⊥) → left_of x (b ∷ path) ≡ b ∷ left_of x path
left_other x b path h = ap (λ (t : Bool). cond (not t) (b ∷ left_of x path) (left_of x path)) (ne_eqb b x h)

left_absent : (x : ℕ) (path : List ℕ) → (Contains path x → ⊥) → left_of x path ≡ path
left_absent x [] h = refl
left_absent x (b ∷ path) h =
    left_other x b path (λ e. h (subst (Contains (b ∷ path)) e (contains-head b path)))
    ∙ ap (λ (rest : List ℕ). b ∷ rest) (left_absent x path (λ m. h (contains-tail b x path m)))

-- the first of a chain taken out: what comes before it leads to what comes after it
cut_first : (nodes : List Node) (a x : ℕ) (path : List ℕ) (z p q : ℕ) → p ≡ a → q ≡ after_of nodes x → p < length nodes → q < length nodes →
    Chain nodes x path z → (Contains path a → ⊥) → (Contains path z → ⊥) → Apart path → Chain (lead nodes p q) a path z
cut_first nodes a x [] z p q pa qx p_in q_in c ha hz once =
    let qz : q ≡ z = qx ∙ c.0 in (
      ap (after_of (lead nodes p q)) (sym pa) ∙ after_lead nodes p q p_in q_in ∙ qz,
      ap (before_of (lead nodes p q)) (sym qz) ∙ before_lead nodes p q p_in q_in ∙ pa,
    )
cut_first nodes a x (y ∷ path) z p q pa qx p_in q_in c ha hz once =
    let qy : q ≡ y = qx ∙ c.0 in (
      ap (after_of (lead nodes p q)) (sym pa) ∙ after_lead nodes p q p_in q_in ∙ qy,
      ap (before_of (lead nodes p q)) (sym qy) ∙ before_lead nodes p q p_in q_in ∙ pa,
      chain_lead nodes p q p_in q_in y path z c.2
          (λ e. ha (subst (Contains (y ∷ path)) (e ∙ pa) (contains-head y path)))
          (λ e. hz (subst (Contains (y ∷ path)) (sym qy ∙ sym e) (contains-head y path)))
          (λ m. ha (contains-tail y a path (subst (Contains path) pa m)))
          (λ m. once.0 (subst (Contains path) qy m)),
    )

pub cut : (nodes : List Node) (a : ℕ) (path : List ℕ) (z x p q : ℕ) → p ≡ before_of nodes x → q ≡ after_of nodes x → p < length nodes → q < length nodes →
    Chain nodes a path z → Contains path x → (Contains path a → ⊥) → (Contains path z → ⊥) → Apart path → Chain (lead nodes p q) a (left_of x path) z
cut nodes a [] z x p q px qx p_in q_in c m ha hz once = absurd (contains-none x m)
cut nodes a (b ∷ path) z x p q px qx p_in q_in c m ha hz once = ⊎_elim
    (λ (same : b ≡ x).
    let absent : Contains path x → ⊥ = λ more. once.0 (subst (Contains path) (sym same) more) in
    let here : Chain nodes x path z = subst (λ y. Chain nodes y path z) same c.2 in
    let pa : p ≡ a = px ∙ ap (before_of nodes) (sym same) ∙ c.1 in
    subst (λ rest. Chain (lead nodes p q) a rest z) (sym (left_same x b path same ∙ left_absent x path absent))
    (cut_first nodes a x path z p q pa qx p_in q_in here (λ n. ha (contains-tail b a path n)) (λ n. hz (contains-tail b z path n)) once.1))
    (λ (other : b ≡ x → ⊥).
    let more : Contains path x = ⊎_elim (λ e. absurd (other e)) (λ n. n) (contains-cases b x path m) in
    let p_at : Contains (b ∷ path) p = subst (Contains (b ∷ path)) (sym px) (chain_before nodes b path z x c.2 more) in
    let q_at : Contains (path ++ z ∷ []) q = subst (Contains (path ++ z ∷ [])) (sym qx) (chain_after nodes b path z x c.2 more) in
    let not_b : b ≢ q = λ e. ⊎_elim
    (λ in_path. once.0 (subst (Contains path) (sym e) in_path))
    (λ at_end. hz (subst (Contains (b ∷ path)) (e ∙ sym (contains-one z q at_end)) (contains-head b path)))
    (Contains-append_cases path (z ∷ []) q q_at) in
    subst (λ rest. Chain (lead nodes p q) a rest z) (sym (left_other x b path other)) (
      after_lead_other nodes p q p_in q_in a (λ e. ha (subst (Contains (b ∷ path)) (sym e) p_at)) ∙ c.0,
      before_lead_other nodes p q p_in q_in b not_b ∙ c.1,
      cut nodes b path z x p q px qx p_in q_in c.2 more once.0 (λ n. hz (contains-tail b z path n)) once.1,
    ))
    (cases_eq b x)

-- ---- a node put in at the end

abbrev pub lead_both : List Node → ℕ → ℕ → ℕ → List Node
lead_both nodes p x z = lead (lead nodes p x) x z

pub join : (nodes : List Node) (a : ℕ) (path : List ℕ) (z x p : ℕ) → p ≡ before_of nodes z → p < length nodes → x < length nodes → z < length nodes →
    Chain nodes a path z → a ≢ x → z ≢ x → (Contains path x → ⊥) → (Contains path a → ⊥) → (Contains path z → ⊥) → Apart path →
    Chain (lead_both nodes p x z) a (path ++ x ∷ []) z
join nodes a [] z x p pz p_in x_in z_in c ax zx hx ha hz once =
    let one = lead nodes p x in
    let x_in' : x < length one = omega (arith, length-lead nodes p x) in
    let z_in' : z < length one = omega (arith, length-lead nodes p x) in
    let pa : p ≡ a = pz ∙ c.1 in (
      after_lead_other one x z x_in' z_in' a ax ∙ ap (after_of one) (sym pa) ∙ after_lead nodes p x p_in x_in,
      before_lead_other one x z x_in' z_in' x (λ e. zx (sym e)) ∙ before_lead nodes p x p_in x_in ∙ pa,
      (after_lead one x z x_in' z_in', before_lead one x z x_in' z_in'),
    )
join nodes a (b ∷ path) z x p pz p_in x_in z_in c ax zx hx ha hz once =
    let one = lead nodes p x in
    let x_in' : x < length one = omega (arith, length-lead nodes p x) in
    let z_in' : z < length one = omega (arith, length-lead nodes p x) in
    let p_at : Contains (b ∷ path) p = subst (Contains (b ∷ path)) (sym pz) (chain_last nodes b path z c.2) in
    let bx : b ≢ x = λ e. hx (subst (Contains (b ∷ path)) e (contains-head b path)) in
    let bz : b ≢ z = λ e. hz (subst (Contains (b ∷ path)) e (contains-head b path)) in (
      after_lead_other one x z x_in' z_in' a ax ∙ after_lead_other nodes p x p_in x_in a (λ e. ha (subst (Contains (b ∷ path)) (sym e) p_at)) ∙ c.0,
      before_lead_other one x z x_in' z_in' b bz ∙ before_lead_other nodes p x p_in x_in b bx ∙ c.1,
      join nodes b path z x p pz p_in x_in z_in c.2 bx zx (λ n. hx (contains-tail b x path n)) once.0 (λ n. hz (contains-tail b z path n)) once.1,
    )
