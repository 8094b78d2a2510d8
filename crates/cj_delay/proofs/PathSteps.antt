-- Steps of a path.
use Rattle.std.proofs.Common.{◌≡◌, ℕ, zero, suc, ◌+◌, ◌-◌, ◌<◌, ◌≤◌, Bool, true, false, not, ◌||◌, cond, List, [], ◌∷◌, ◌++◌, length, get_or, take, drop}
use Rattle.std.proofs.Common.{Option, Some, None, refl, sym, ap, ◌∙◌, subst, arith}
use Rattle.std.specs.Prelude.{slice_get, count_by, Contains, nat_eq}
use Rattle.std.specs.List.{list_any}
use Rattle.std.proofs.lemmas.List.{take_more}
use Rattle.std.proofs.lemmas.List.Elements.{All-contains, Contains-append_left, Contains-append_right}
use Rattle.std.proofs.lemmas.Option.{none-some}
use Rattle.std.proofs.lemmas.Bool.{eqb-true, and_parts}
use Rattle.cj_ir.specs.declared.language.Label.{Label}
use Rattle.cj_ir.specs.declared.language.Program.{Program}
use Rattle.cj_ir.proofs.Labels.{same_label}
use Rattle.cj_draft.specs.declared.code.Place.{Place}
use Rattle.cj_draft.specs.declared.code.Code.{Code}
use Rattle.cj_draft.specs.declared.passes.Skipped.{Skipped}
use Rattle.cj_draft.specs.Arrives.{place_at}
use Rattle.cj_draft.specs.Edges.{successors}
use Rattle.cj_rows.specs.Guards.{or_next}
use Rattle.cj_delay.specs.DelayedAssume.{is_label, all_nexts, nexts_in, on_path, turn_at, turns_before, is_edge, step_offence, steps_offence}
use Rattle.cj_delay.specs.CountedEdges.{AreNextsWithin}
use Rattle.cj_delay.proofs.Counted.{count-append, count-cons}

-- ---- tests

pub any_contains : (label : Label) (labels : List Label) → list_any (is_label label) labels ≡ true → Contains labels label
unfolding is_label
any_contains label [] e = let f : false ≡ true = e in absurd (cc)
any_contains label (x ∷ labels) e = by_test (nat_eq x.0 label.0) refl (λ h. any_contains label labels h) e
  where
    by_test : (b : Bool) → nat_eq x.0 label.0 ≡ b → (list_any (is_label label) labels ≡ true → Contains labels label) →
        b || list_any (is_label label) labels ≡ true → Contains (x ∷ labels) label
    by_test true is more e = (0, omega arith, same_label x label (eqb-true x.0 label.0 is))
    by_test false is more e = Contains-append_right (x ∷ []) labels label (more e)

pub edge_parts : (code : Code) (path : List Label) (at : ℕ) → is_edge code path at ≡ true →
    Contains (nexts_in (place_at code (on_path path (at - 1)))) (on_path path at) × (not (list_any (is_label (on_path path at)) (take at path)) ≡ true)
unfolding is_edge
edge_parts code path at e =
    let parts = and_parts (list_any (is_label (on_path path at)) (nexts_in (place_at code (on_path path (at - 1)))))
    (not (list_any (is_label (on_path path at)) (take at path))) e in
    (any_contains (on_path path at) (nexts_in (place_at code (on_path path (at - 1)))) parts.0, parts.1)

-- what a place goes on to, all places do
pub nexts_contain : (places : List Place) (i : ℕ) (p : Place) (next : Label) → slice_get places i ≡ Some p → Contains (successors p.instr) next →
    Contains (all_nexts places) next
unfolding all_nexts nexts_in
nexts_contain [] i p next at c = absurd (none-some p at)
nexts_contain (q ∷ places) zero p next at c =
    Contains-append_left (successors q.instr) (all_nexts places) next (subst (λ (o : Option Place). Contains (nexts_in o) next) (sym at) c)
nexts_contain (q ∷ places) (suc i) p next at c = Contains-append_right (successors q.instr) (all_nexts places) next (nexts_contain places i p next at c)

-- the place from which an edge comes
pub record HasEdge (code : Code) (from next : Label) : Type 0 where
  pub place : Place
  pub at : place_at code from ≡ Some place
  pub goes : Contains (successors place.instr) next

pub has_edge : (code : Code) (from next : Label) → Contains (nexts_in (place_at code from)) next → HasEdge code from next
unfolding nexts_in
has_edge code from next c = by_place (place_at code from) refl c
  where
    by_place : (o : Option Place) → place_at code from ≡ o → Contains (nexts_in o) next → HasEdge code from next
    by_place None at c = let h : c.0 < 0 = c.1 in absurd (omega arith)
    by_place (Some p) at c = record { place = p; at = at; goes = c }

pub edge_within : (code : Code) (path : List Label) (at : ℕ) → AreNextsWithin code.places → is_edge code path at ≡ true →
    (on_path path at).0 < length code.places
edge_within code path at closed e =
    let edge = has_edge code (on_path path (at - 1)) (on_path path at) (edge_parts code path at e).0 in
    All-contains (λ (next : Label). next.0 < length code.places) (all_nexts code.places) (on_path path at) closed.within
    (nexts_contain code.places (on_path path (at - 1)).0 edge.place (on_path path at) edge.at edge.goes)

-- ---- turns

drop_one_append : {X : Type 0} (xs : List X) (x : X) → 0 < length xs → drop 1 (xs ++ x ∷ []) ≡ drop 1 xs ++ x ∷ []
drop_one_append [] x h = absurd (omega arith)
drop_one_append (y ∷ xs) x h = refl

length_take_some : (path : List Label) (i : ℕ) → 0 < i → i < length path → 0 < length (take i path)
length_take_some [] i h k = absurd (omega arith)
length_take_some (x ∷ path) zero h k = absurd (omega arith)
length_take_some (x ∷ path) (suc i) h k = omega arith

pub turns_more : (code : Code) (path : List Label) (i : ℕ) → 0 < i → i < length path →
    turns_before code path (i + 1) ≡ turns_before code path i + cond (turn_at code (on_path path i)) 1 0
unfolding turns_before on_path
turns_more code path i h k =
    let x : Label = get_or path i (record { 0 = 0 }) in
    let none : count_by (turn_at code) [] ≡ 0 = refl in
    ap (λ (xs : List Label). count_by (turn_at code) (drop 1 xs)) (take_more path i (record { 0 = 0 }) k)
    ∙ ap (count_by (turn_at code)) (drop_one_append (take i path) x (length_take_some path i h k))
    ∙ count-append (turn_at code) (drop 1 (take i path)) (x ∷ [])
    ∙ ap (λ n. count_by (turn_at code) (drop 1 (take i path)) + n) (count-cons (turn_at code) x [] ∙ omega arith)

pub turns_first : (code : Code) (path : List Label) → turns_before code path 1 ≡ 0
unfolding turns_before
turns_first code [] = refl
turns_first code (x ∷ path) = refl

-- ---- steps

pub steps_on : (P : Program) (code : Code) (path : List Label) (at : ℕ) (whole : Option Skipped) → at < length path → step_offence P code path at ≡ None →
    steps_offence P code path (length path - at) at ≡ whole → steps_offence P code path (length path - (at + 1)) (at + 1) ≡ whole
unfolding steps_offence or_next
steps_on P code path at whole h none so_far =
    let n = length path - (at + 1) in
    let left : suc n ≡ length path - at = omega arith in
    let next : at + 1 ≡ suc at = omega arith in
    ap (steps_offence P code path n) next
    ∙ sym (ap (λ (o : Option Skipped). or_next o (steps_offence P code path n (suc at))) none)
    ∙ ap (λ k. steps_offence P code path k at) left ∙ so_far

pub steps_found : (P : Program) (code : Code) (path : List Label) (at : ℕ) (skipped : Skipped) (whole : Option Skipped) → at < length path →
    step_offence P code path at ≡ Some skipped → steps_offence P code path (length path - at) at ≡ whole → Some skipped ≡ whole
unfolding steps_offence or_next
steps_found P code path at skipped whole h some so_far =
    let n = length path - (at + 1) in
    let left : suc n ≡ length path - at = omega arith in
    sym (ap (λ (o : Option Skipped). or_next o (steps_offence P code path n (suc at))) some)
    ∙ ap (λ k. steps_offence P code path k at) left ∙ so_far

pub steps_done : (P : Program) (code : Code) (path : List Label) (at : ℕ) (whole : Option Skipped) → length path ≤ at →
    steps_offence P code path (length path - at) at ≡ whole → None ≡ whole
unfolding steps_offence
steps_done P code path at whole h so_far =
    let left : 0 ≡ length path - at = omega arith in
    ap (λ k. steps_offence P code path k at) left ∙ so_far
