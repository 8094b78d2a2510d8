-- Labels of a path that get their pairs one after the other.
use Rattle.std.proofs.Common.{◌≡◌, ℕ, ◌+◌, ◌<◌, cond, List, length, Some, refl, sym, ap, ◌∙◌, subst, ⊎_elim, arith, length-set}
use Rattle.std.specs.Prelude.{slice_get, slice_set}
use Rattle.std.proofs.lemmas.Option.{same_Some}
use Rattle.std.proofs.lemmas.Bool.{cases_eq}
use Rattle.cj_ir.specs.declared.language.Label.{Label}
use Rattle.cj_ir.proofs.Labels.{same_label}
use Rattle.cj_draft.specs.declared.points.Point.{Point}
use Rattle.cj_draft.specs.declared.code.Back.{Back}
use Rattle.cj_draft.specs.declared.code.Place.{Place}
use Rattle.cj_draft.specs.declared.code.Code.{Code}
use Rattle.cj_draft.specs.Arrives.{place_at}
use Rattle.cj_draft.specs.Sound.{pair_of}
use Rattle.cj_rows.specs.Pairs.{AreWith}
use Rattle.cj_rows.proofs.ListReads.{get-set_same, get-set_other}
use Rattle.cj_rows.specs.Places.{with_places}
use Rattle.cj_delay.specs.DelayedAssume.{on_path, turn_in, turn_at, turns_before, path_pair, with_backs, AreMarked}
use Rattle.cj_delay.specs.DelaySteps.{IsPathIn, IsMarkedAt}
use Rattle.cj_delay.proofs.PathSteps.{turns_more}

pub mark_begins : (code : Code) (path : List Label) (target : Point) (number : ℕ) → AreMarked code path target number 1 code.places
mark_begins code path target number = record {
  count = refl;
  marked = λ at place some within h. absurd (omega arith);
  others = λ label none. refl;
}

module _ (code now : Code) (path : List Label) (target : Point) (number at : ℕ) (is_in : IsPathIn code path) (some : 0 < at) (within : at < length path)
    (same : now ≡ with_places code now.places) (marked : AreMarked code path target number at now.places) where
  -- the label is as it was
  pub unmarked : place_at now (on_path path at) ≡ place_at code (on_path path at)
  unmarked = marked.others (on_path path at) (λ j first before is. is_in.apart j at before within is)

  pub turn_unmarked : turn_at now (on_path path at) ≡ turn_at code (on_path path at)
  unfolding turn_at
  turn_unmarked = ap turn_in unmarked

  pub still_within : (on_path path at).0 < length now.places
  still_within = omega (arith, is_in.within at within, marked.count)

  pub turns_more_now : (turns more : ℕ) → turns ≡ number + turns_before code path at → more ≡ cond (turn_at now (on_path path at)) 1 0 →
      turns + more ≡ number + turns_before code path (at + 1)
  turns_more_now turns more is_turns is_more =
      let step = turns_more code path at some within in
      let as_code : more ≡ cond (turn_at code (on_path path at)) 1 0 = is_more ∙ ap (λ b. cond b 1 0) turn_unmarked in
      omega (arith, step, as_code)

  module _ (next : Code) (turns : ℕ) (is_turns : turns ≡ number + turns_before code path at)
      (is : IsMarkedAt now (on_path path at) (pair_of turns target) next) where
    places_are : next.places ≡ slice_set now.places (on_path path at).0 is.marked
    unfolding with_places
    places_are = ap (λ (k : Code). k.places) is.same

    pub same_more : next ≡ with_places code next.places
    unfolding with_places
    same_more =
        is.same ∙ ap (λ (k : Code). with_places k (slice_set now.places (on_path path at).0 is.marked)) same
        ∙ ap (with_places code) (sym places_are)

    pub marked_more : AreMarked code path target number (at + 1) next.places
    unfolding path_pair with_backs
    marked_more =
        let label = on_path path at in
        let places = slice_set now.places label.0 is.marked in
        let inside = still_within in
        record {
          count = ap length places_are ∙ length-set now.places label.0 is.marked ∙ marked.count;
          marked = λ j place first before there. ⊎_elim
              (λ (here : j ≡ at).
              let old : is.place ≡ place = same_Some is.place place (sym is.at ∙ unmarked ∙ ap (λ i. place_at code (on_path path i)) (sym here) ∙ there) in
              let pair : pair_of turns target
              ≡ path_pair code path target number j = ap (λ i. pair_of i target) (is_turns ∙ ap (λ i. number + turns_before code path i) (sym here)) in (
                is.is_marked.backs,
                subst (λ (q : Back). AreWith place.backs q is.is_marked.backs) pair
                    (subst (λ (p : Place). AreWith p.backs (pair_of turns target) is.is_marked.backs) old is.is_marked.with_pair),
                ap (λ (ps : List Place). slice_get ps (on_path path j).0) places_are
                    ∙ ap (λ i. slice_get places (on_path path i).0) here
                    ∙ get-set_same now.places label.0 is.marked inside
                    ∙ ap Some (is.is_marked.same ∙ ap (with_backs is.is_marked.backs) old),
              ))
              (λ (other : j ≡ at → ⊥).
              let less : j < at = omega arith in
              let got = marked.marked j place first less there in (
                got.0,
                got.1,
                ap (λ (ps : List Place). slice_get ps (on_path path j).0) places_are
                    ∙ get-set_other now.places label.0 (on_path path j).0 is.marked (λ e. is_in.apart j at less within (same_label (on_path path j) label e))
                    ∙ got.2,
              ))
              (cases_eq j at);
          others = λ x none.
              ap (λ (ps : List Place). slice_get ps x.0) places_are
              ∙ get-set_other now.places label.0 x.0 is.marked (λ e. none at some (omega arith) (same_label label x (sym e)))
              ∙ marked.others x (λ j first before. none j first (omega arith));
        }
