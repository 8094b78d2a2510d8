-- Lists of uses are lists of edges under other names.
use Rattle.std.proofs.Common.{◌≡◌, ℕ, zero, suc, ◌<◌, Bool, true, false, not, cond, List, [], ◌∷◌, map, get_or, Some, refl, sym, ap, ap₂, ◌∙◌, subst, arith}
use Rattle.std.specs.Prelude.{All, Contains, slice_get, slice_set, nat_eq}
use Rattle.std.specs.Option.{option_map}
use Rattle.std.specs.List.{range_with_len}
use Rattle.std.proofs.Math.ListN.{get_or-map}
use Rattle.std.proofs.lemmas.List.{map-set, length-map}
use Rattle.std.proofs.lemmas.List.Elements.{All-nil, All-cons, All-head, All-tail}
use Rattle.cj_ir.specs.declared.language.Label.{Label}
use Rattle.cj_ir.specs.declared.language.Reg.{Reg}
use Rattle.cj_links.specs.declared.edges.EdgeId.{EdgeId}
use Rattle.cj_links.specs.declared.uses.UseId.{UseId}
use Rattle.cj_links.specs.EdgeTable.{EdgeTable, label_of, end_of, list_of, edges_into, given, without, unlinked, IsInto, IsLinked}
use Rattle.cj_links.specs.UseTable.{use_table, reg_of, use_at, used_by, uses_of, IsListed, without_use, unlisted, uses_from, given_uses, use_of, edge_of_use}
use Rattle.cj_links.specs.UseTable.{use_along, edge_along, seen_uses}

-- ---- reads

pub list_seen : (t : EdgeTable) (reg : Reg) → uses_of (seen_uses t) reg ≡ map use_of (list_of t (label_of reg.0))
list_seen t reg = get_or-map (map use_of) t.lists reg.0 []

pub use_seen : (t : EdgeTable) (x : UseId) → use_at (seen_uses t) x ≡ use_along (get_or t.edges x.0 (label_of 0, label_of 0))
use_seen t x = get_or-map use_along t.edges x.0 (label_of 0, label_of 0)

-- the list of a use's register is that of the edge's end
pub own_list_seen : (t : EdgeTable) (x : UseId) → uses_of (seen_uses t) (used_by (seen_uses t) x) ≡ map use_of (list_of t (end_of t (edge_of_use x)))
own_list_seen t x = ap (λ (p : Reg × Label). uses_of (seen_uses t) p.0) (use_seen t x) ∙ list_seen t (reg_of (end_of t (edge_of_use x)).0)

unmapped : (list : List EdgeId) (x : UseId) → Contains (map use_of list) x → Contains list (edge_of_use x)
unmapped list x c =
    (c.0, (let h = c.1 in let size = length-map list use_of in omega arith), ap edge_of_use (sym (get_or-map use_of list c.0 (edge_of_use x)) ∙ c.2))

pub listed_linked : (t : EdgeTable) (x : UseId) → IsListed (seen_uses t) x → IsLinked t (edge_of_use x)
listed_linked t x c = unmapped (list_of t (end_of t (edge_of_use x))) x (subst (λ (list : List UseId). Contains list x) (own_list_seen t x) c)

pub same_place : (list : List EdgeId) (k : ℕ) (x : UseId) → slice_get (map use_of list) k ≡ Some x → slice_get list k ≡ Some (edge_of_use x)
same_place [] k x e = absurd (cc)
same_place (y ∷ list) zero x e = ap (option_map edge_of_use) e
same_place (y ∷ list) (suc k) x e = same_place list k x e

-- ---- a use taken out

without_seen : (x : UseId) (list : List EdgeId) → map use_of (without (edge_of_use x) list) ≡ without_use x (map use_of list)
without_seen x [] = refl
without_seen x (y ∷ list) = by_case (nat_eq y.0 x.0) (without_seen x list)
  where
    by_case : (b : Bool) → map use_of (without (edge_of_use x) list) ≡ without_use x (map use_of list) →
        map use_of (cond (not b) (y ∷ without (edge_of_use x) list) (without (edge_of_use x) list))
        ≡ cond (not b) (use_of y ∷ without_use x (map use_of list)) (without_use x (map use_of list))
    by_case true rest = rest
    by_case false rest = ap (λ (l : List UseId). use_of y ∷ l) rest

pub unlisted_seen : (t : EdgeTable) (x : UseId) → seen_uses (unlinked t (edge_of_use x)) ≡ unlisted (seen_uses t) x
unlisted_seen t x =
    let n = (end_of t (edge_of_use x)).0 in
    let list = list_of t (end_of t (edge_of_use x)) in
    ap (use_table (map use_along t.edges))
    (map-set (map use_of) t.lists n (without (edge_of_use x) list)
    ∙ ap₂ (λ (m : ℕ) (l : List UseId). slice_set (map (map use_of) t.lists) m l)
    (sym (ap (λ (p : Reg × Label). p.0.0) (use_seen t x)))
    (without_seen x list ∙ ap (without_use x) (sym (own_list_seen t x))))

-- ---- the lists as they are given

uses_into : (n : ℕ) (uses : List (Reg × Label)) (r : ℕ) → map use_of (edges_into (label_of r) n (map edge_along uses)) ≡ uses_from n uses (reg_of r)
uses_into n [] r = refl
uses_into n (x ∷ uses) r = by_case (nat_eq x.0.0 r) (uses_into (suc n) uses r)
  where
    by_case : (b : Bool) → map use_of (edges_into (label_of r) (suc n) (map edge_along uses)) ≡ uses_from (suc n) uses (reg_of r) →
        map use_of (cond b (record { 0 = n } ∷ edges_into (label_of r) (suc n) (map edge_along uses)) (edges_into (label_of r) (suc n) (map edge_along uses)))
        ≡ cond b (record { 0 = n } ∷ uses_from (suc n) uses (reg_of r)) (uses_from (suc n) uses (reg_of r))
    by_case true rest = ap (λ (l : List UseId). record { 0 = n } ∷ l) rest
    by_case false rest = rest

lists_from : (uses : List (Reg × Label)) (ns : List ℕ) → map (map use_of) (map (λ n. edges_into (label_of n) 0 (map edge_along uses)) ns)
    ≡ map (λ r. uses_from 0 uses (reg_of r)) ns
lists_from uses [] = refl
lists_from uses (n ∷ ns) = ap₂ (λ (l : List UseId) (ls : List (List UseId)). l ∷ ls) (uses_into 0 uses n) (lists_from uses ns)

same_uses : (uses : List (Reg × Label)) → map use_along (map edge_along uses) ≡ uses
same_uses [] = refl
same_uses (x ∷ uses) = ap (λ (xs : List (Reg × Label)). x ∷ xs) (same_uses uses)

pub given_seen : (registers : ℕ) (uses : List (Reg × Label)) → seen_uses (given registers (map edge_along uses)) ≡ given_uses registers uses
given_seen registers uses = ap₂ use_table (same_uses uses) (lists_from uses (range_with_len 0 registers))

pub edges_lead : (registers : ℕ) (uses : List (Reg × Label)) → All (λ x. x.0.0 < registers) uses → All (IsInto registers) (map edge_along uses)
edges_lead registers [] h = All-nil (IsInto registers)
edges_lead registers (x ∷ uses) h =
    All-cons (IsInto registers) (edge_along x) (map edge_along uses) (All-head (λ (y : Reg × Label). y.0.0 < registers) x uses h)
    (edges_lead registers uses (All-tail (λ (y : Reg × Label). y.0.0 < registers) x uses h))
