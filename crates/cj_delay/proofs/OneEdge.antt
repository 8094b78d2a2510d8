-- Where one edge goes into a label.
use Rattle.std.proofs.Common.{◌≡◌, ◌≢◌, ℕ, zero, suc, ◌<◌, ◌≤◌, Bool, cond, List, [], ◌∷◌, length, Some, refl, sym, ap, subst, ⊎_elim, arith, eq-eqb}
use Rattle.std.specs.Prelude.{slice_get, count_by, All, Contains, nat_eq}
use Rattle.std.proofs.lemmas.Option.{same_Some, none-some}
use Rattle.std.proofs.lemmas.List.Elements.{All-nil, All-append, All-contains, Contains-append_cases}
use Rattle.cj_ir.specs.declared.language.Label.{Label}
use Rattle.cj_ir.specs.declared.language.Program.{Program}
use Rattle.cj_ir.proofs.Members.{contains-none, contains-one}
use Rattle.cj_draft.specs.declared.code.Place.{Place}
use Rattle.cj_draft.specs.declared.code.Code.{Code}
use Rattle.cj_draft.specs.Arrives.{place_at}
use Rattle.cj_draft.specs.WellNamed.{WellNamed, IsPlaceFine}
use Rattle.cj_ir.proofs.ListReads.{all_at}
use Rattle.cj_draft.specs.Edges.{successors}
use Rattle.cj_draft.proofs.EdgeLemmas.{successors_within}
use Rattle.cj_delay.specs.DelayedAssume.{is_label, all_nexts, edges_into}
use Rattle.cj_delay.specs.CountedEdges.{AreNextsWithin}
use Rattle.cj_delay.proofs.Counted.{count-append, count-cons}
use Rattle.cj_delay.proofs.PathSteps.{nexts_contain}

-- ---- counts

count_some : (l : Label) (xs : List Label) → Contains xs l → 1 ≤ count_by (is_label l) xs
unfolding is_label
count_some l [] c = absurd (contains-none l c)
count_some l (x ∷ xs) c =
    let split = count-cons (is_label l) x xs in
    ⊎_elim
    (λ here.
    let same : x.0 ≡ l.0 = ap (λ (y : Label). y.0) (contains-one x l here) in
    let one : ◌≡◌ {A = ℕ} (cond (nat_eq x.0 l.0) 1 0) 1 = ap (λ (b : Bool). cond b 1 0) (eq-eqb x.0 l.0 same) in
    omega (arith, split, one))
    (λ more. omega (arith, split, count_some l xs more))
    (Contains-append_cases (x ∷ []) xs l c)

count_nexts : (l : Label) (places : List Place) (j : ℕ) (q : Place) → slice_get places j ≡ Some q → Contains (successors q.instr) l →
    1 ≤ count_by (is_label l) (all_nexts places)
count_nexts l places j q at c = count_some l (all_nexts places) (nexts_contain places j q l at c)

one_place : (l : Label) (places : List Place) (i j : ℕ) (p q : Place) → slice_get places i ≡ Some p → slice_get places j ≡ Some q →
    Contains (successors p.instr) l → Contains (successors q.instr) l → count_by (is_label l) (all_nexts places) ≤ 1 → i ≡ j
unfolding all_nexts
one_place l [] i j p q at at' c c' few = absurd (none-some p at)
one_place l (x ∷ places) zero zero p q at at' c c' few = refl
one_place l (x ∷ places) zero (suc j) p q at at' c c' few =
    let is : x ≡ p = same_Some x p at in
    let here = count_some l (successors x.instr) (subst (λ (y : Place). Contains (successors y.instr) l) (sym is) c) in
    absurd (omega (arith, count-append (is_label l) (successors x.instr) (all_nexts places), here, count_nexts l places j q at' c'))
one_place l (x ∷ places) (suc i) zero p q at at' c c' few =
    let is : x ≡ q = same_Some x q at' in
    let here = count_some l (successors x.instr) (subst (λ (y : Place). Contains (successors y.instr) l) (sym is) c') in
    absurd (omega (arith, count-append (is_label l) (successors x.instr) (all_nexts places), here, count_nexts l places i p at c))
one_place l (x ∷ places) (suc i) (suc j) p q at at' c c' few =
    ap suc (one_place l places i j p q at at' c c' (omega (arith, count-append (is_label l) (successors x.instr) (all_nexts places))))

-- the places from which edges go into the label are one
pub only_edge : (code : Code) (l x y : Label) (p q : Place) → edges_into code l ≡ 1 → place_at code x ≡ Some p → place_at code y ≡ Some q →
    Contains (successors p.instr) l → Contains (successors q.instr) l → x.0 ≡ y.0
unfolding edges_into
only_edge code l x y p q one at at' c c' = one_place l code.places x.0 y.0 p q at at' c c' (omega (arith, one))

-- where that edge is one of a place, the label is not the entry
pub entry_other : (code : Code) (l x : Label) (p : Place) → edges_into code l ≡ 1 → place_at code x ≡ Some p → Contains (successors p.instr) l → code.entry ≢ l
unfolding edges_into is_label
entry_other code l x p one at c e =
    let start : ◌≡◌ {A = ℕ} (cond (nat_eq code.entry.0 l.0) 1 0) 1 = ap (λ (b : Bool). cond b 1 0) (eq-eqb code.entry.0 l.0 (ap (λ (y : Label). y.0) e)) in
    omega (arith, one, start, count_nexts l code.places x.0 p at c)

-- ---- edges of a code

nexts_within : (P : Program) (regs n : ℕ) (places : List Place) → ((i : ℕ) (p : Place) → slice_get places i ≡ Some p → IsPlaceFine P regs n p) →
    All (λ (y : Label). y.0 < n) (all_nexts places)
unfolding all_nexts
nexts_within P regs n [] fine = All-nil (λ (y : Label). y.0 < n)
nexts_within P regs n (p ∷ places) fine =
    All-append (λ (y : Label). y.0 < n) (successors p.instr) (all_nexts places) (successors_within P regs n p.instr (fine 0 p refl).instr)
    (nexts_within P regs n places (λ i q at. fine (suc i) q at))

pub named_within : (P : Program) (code : Code) → WellNamed P code → AreNextsWithin code.places
named_within P code named = record {
  within = nexts_within P code.regs (length code.places) code.places
      (λ i p at. all_at (IsPlaceFine P code.regs (length code.places)) code.places i p named.places at);
}

pub next_within : (code : Code) (x : Label) (p : Place) (next : Label) → AreNextsWithin code.places → place_at code x ≡ Some p →
    Contains (successors p.instr) next → next.0 < length code.places
next_within code x p next closed at c = All-contains (λ (y : Label). y.0 < length code.places) (all_nexts code.places) next closed.within
    (nexts_contain code.places x.0 p next at c)

-- ---- edges that are led
