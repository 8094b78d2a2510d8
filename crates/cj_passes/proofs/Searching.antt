-- What the search keeps as it begins and as it finds one label more, and what it has found where all edges are followed.
use Rattle.std.proofs.Common.{◌≡◌, ℕ, ◌+◌, ◌<◌, Bool, true, false, List, [], ◌∷◌, ◌++◌, length, get_or, replicate, Some, refl, sym, ap, ◌∙◌, subst, ⊎_elim}
use Rattle.std.proofs.Common.{arith, length-append, length-set}
use Rattle.std.specs.Prelude.{slice_get, slice_set, slice_index_or, Contains, All}
use Rattle.std.proofs.lemmas.Option.{same_Some, slice_get-get_or}
use Rattle.std.proofs.lemmas.List.{length-replicate}
use Rattle.std.proofs.lemmas.List.Elements.{Contains-get_or, Contains-append_left, Contains-append_right, Contains-append_cases}
use Rattle.std.proofs.lemmas.Bool.{cases_eq}
use Rattle.cj_ir.specs.declared.language.Label.{Label}
use Rattle.cj_ir.proofs.Marks.{count-none, count-set, no_mark}
use Rattle.cj_ir.proofs.Members.{contains-none, contains-one}
use Rattle.cj_ir.proofs.Labels.{same_label}
use Rattle.cj_draft.specs.declared.code.Place.{Place}
use Rattle.cj_draft.specs.declared.code.Code.{Code}
use Rattle.cj_draft.specs.Arrives.{place_at}
use Rattle.cj_passes.specs.Lowering.{passed, Reached, Entry, Edge, AreKept}
use Rattle.cj_rows.specs.Edges.{IsClosed}
use Rattle.cj_passes.specs.Search.{IsSearch, Grows, AreLed, IsFollowed, AreFollowed}
use Rattle.cj_draft.specs.Edges.{successors}
use Rattle.cj_rows.proofs.Closed.{next_within}
use Rattle.cj_passes.proofs.Passing.{passed_within}
use Rattle.cj_rows.proofs.ListReads.{get-set_same, get-set_other, get-append_left, contains-at, at-contains}

-- ---- nothing found

pub search_begins : (code : Code) → IsSearch code (replicate (length code.places) false) []
search_begins code = record {
  count = length-replicate (length code.places) false;
  number = sym (count-none (length code.places));
  kept_found = λ x e. absurd (no_mark (length code.places) x.0 e);
  found_kept = λ x c. absurd (contains-none x c);
  reached = λ x c. absurd (contains-none x c);
}

-- ---- one label more

pub grows_more : (found : List Label) (x : Label) → Grows found (found ++ x ∷ [])
grows_more found x = λ k y e. get-append_left found (x ∷ []) k y e

pub grows_contains : (old new : List Label) (x : Label) → Grows old new → Contains old x → Contains new x
grows_contains old new x grows c = contains-at new c.0 x (grows c.0 x (at-contains old x c))

pub search_more : (code : Code) (kept : List Bool) (found : List Label) (x : Label) → IsSearch code kept found → slice_get kept x.0 ≡ Some false →
    x.0 < length kept → Reached code x → IsSearch code (slice_set kept x.0 true) (found ++ x ∷ [])
search_more code kept found x s at within reached = record {
  count = length-set kept x.0 true ∙ s.count;
  number = length-append found (x ∷ []) ∙ ap (λ n. n + 1) s.number ∙ sym (count-set kept x.0 at);
  kept_found = λ y e. ⊎_elim
      (λ same. subst (Contains (found ++ x ∷ [])) (sym (same_label y x same)) (Contains-append_right found (x ∷ []) x (0, omega arith, refl)))
      (λ other. Contains-append_left found (x ∷ []) y (s.kept_found y (sym (get-set_other kept x.0 y.0 true other) ∙ e)))
      (cases_eq y.0 x.0);
  found_kept = λ y c. ⊎_elim
      (λ old. still y (s.found_kept y old))
      (λ new. subst (λ z. slice_get (slice_set kept x.0 true) z.0 ≡ Some true) (contains-one x y new) (get-set_same kept x.0 true within))
      (Contains-append_cases found (x ∷ []) y c);
  reached = λ y c. ⊎_elim (λ old. s.reached y old) (λ new. subst (Reached code) (contains-one x y new) reached) (Contains-append_cases found (x ∷ []) y c);
}
  where
    still : (y : Label) → slice_get kept y.0 ≡ Some true → slice_get (slice_set kept x.0 true) y.0 ≡ Some true
    still y e = ⊎_elim
        (λ same. subst (λ z. slice_get (slice_set kept x.0 true) z ≡ Some true) (sym same) (get-set_same kept x.0 true within))
        (λ other. get-set_other kept x.0 y.0 true other ∙ e)
        (cases_eq y.0 x.0)

-- ---- edges followed

pub led_grows : (code : Code) (old new : List Label) (nexts : List Label) → Grows old new → AreLed code old nexts → AreLed code new nexts
led_grows code old new nexts grows led = λ next c. grows_contains old new (passed code next) grows (led next c)

pub followed_grows : (code : Code) (old new : List Label) (x : Label) → Grows old new → IsFollowed code old x → IsFollowed code new x
followed_grows code old new x grows followed = λ place at. led_grows code old new (successors place.instr) grows (followed place at)

pub led_none : (code : Code) (found : List Label) → AreLed code found []
led_none code found = λ next c. absurd (contains-none next c)

pub led_more : (code : Code) (found : List Label) (x : Label) (nexts : List Label) → Contains found (passed code x) → AreLed code found nexts →
    AreLed code found (x ∷ nexts)
led_more code found x nexts here led = λ next c. ⊎_elim
    (λ one. subst (λ y. Contains found (passed code y)) (contains-one x next one) here)
    (λ more. led next more)
    (Contains-append_cases (x ∷ []) nexts next c)

-- the first n and one more
pub followed_more : (code : Code) (old new : List Label) (n : ℕ) (x : Label) → Grows old new → slice_get old n ≡ Some x → n < length old →
    AreFollowed code old n → IsFollowed code new x → AreFollowed code new (n + 1)
followed_more code old new n x grows at within followed here = λ k y lt at'. ⊎_elim
    (λ e. subst (IsFollowed code new) (same_Some x y (sym (grows n x at) ∙ ap (slice_get new) (sym e) ∙ at')) here)
    (λ ne.
    let less : k < n = omega arith in
    let inside : k < length old = omega arith in
    let old_at = slice_get-get_or old k y inside in
    let e : get_or old k y ≡ y = same_Some (get_or old k y) y (sym (grows k (get_or old k y) old_at) ∙ at') in
    followed_grows code old new y grows (followed k y less (old_at ∙ ap Some e)))
    (cases_eq k n)

-- ---- a label that was found

pub found_marked : (code : Code) (kept : List Bool) (found : List Label) (x : Label) (d : Bool) → IsSearch code kept found → x.0 < length kept →
    get_or kept x.0 d ≡ true → Contains found x
found_marked code kept found x d s within e = s.kept_found x (slice_get-get_or kept x.0 d within ∙ ap Some e)

pub reached_edges : (code : Code) (x : Label) (place : Place) → Reached code x → place_at code x ≡ Some place →
    All (λ next. Reached code (passed code next)) (successors place.instr)
reached_edges code x place reached at = λ k d lt.
    Edge x place (slice_index_or (successors place.instr) k d) reached at (Contains-get_or (successors place.instr) k d lt)

pub reached_within : (code : Code) (x : Label) → IsClosed code → Reached code x → x.0 < length code.places
reached_within code x closed Entry = passed_within code code.entry closed closed.entry
reached_within code x closed (Edge from place next reached at c) = passed_within code next closed (next_within code from place next closed at c)

-- ---- the end of the search

-- where all edges of what was found are followed, all that is reached was found
pub all_found : (code : Code) (found : List Label) → Contains found (passed code code.entry) → AreFollowed code found (length found) → (x : Label) →
    Reached code x → Contains found x
all_found code found entry followed x Entry = entry
all_found code found entry followed x (Edge from place next reached at c) =
    let here = all_found code found entry followed from reached in
    followed here.0 from here.1 (at-contains found from here) place at next c

pub search_ends : (code : Code) (kept : List Bool) (found : List Label) → IsSearch code kept found → Contains found (passed code code.entry) →
    AreFollowed code found (length found) → AreKept code kept
search_ends code kept found s entry followed = record {
  count = s.count;
  reached = λ x. (λ e. s.reached x (s.kept_found x e), λ r. s.found_kept x (all_found code found entry followed x r));
}
