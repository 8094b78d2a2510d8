-- The code that the steps make.
use Rattle.std.proofs.Common.{◌≡◌, ℕ, ◌-◌, List, [], ◌∷◌, ◌++◌, length, Some, ap, ◌∙◌}
use Rattle.std.specs.Prelude.{slice_set}
use Rattle.cj_ir.specs.declared.language.Label.{Label}
use Rattle.cj_ir.specs.declared.language.Guard.{Guard}
use Rattle.cj_draft.specs.declared.points.Point.{Point}
use Rattle.cj_draft.specs.declared.instructions.VInstr.TheVariants.{Assume, Anchor}
use Rattle.cj_draft.specs.declared.code.Place.{Place}
use Rattle.cj_draft.specs.declared.code.Code.{Code}
use Rattle.cj_draft.specs.Arrives.{place_at}
use Rattle.cj_draft.specs.Edges.{fresh_label}
use Rattle.cj_rows.specs.Places.{with_instr, with_places}
use Rattle.cj_delay.specs.DelayedAssume.{on_path, turns_back, path_pair, AreMarked, led_edge, delayed, IsDelayed}
use Rattle.cj_delay.specs.DelaySteps.{IsFreshPlace, IsLed}

-- the place of the Assume, before the path's last label
pub record IsAssumeAt (code : Code) (path : List Label) (gs : List Guard) (number : ℕ) (target : Point) (fresh : Place) : Type 0 where
  pub last : Place
  pub at : place_at code (on_path path (length path - 1)) ≡ Some last
  pub is_fresh : IsFreshPlace (Assume gs (turns_back code path number) target (on_path path (length path - 1))) last
      (path_pair code path target number (length path - 1)) fresh

pub delayed_by : (code : Code) (path : List Label) (gs : List Guard) (anchor : Place) (number : ℕ) (target : Point) (next : Label) →
    place_at code (on_path path 0) ≡ Some anchor → anchor.instr ≡ Anchor number target next
    → (fresh : Place) → IsAssumeAt code path gs number target fresh
    → (now : Code) → now ≡ with_places code now.places → AreMarked code path target number (length path - 1) now.places
    → (made : Code) → IsLed now (on_path path (length path - 2)) (on_path path (length path - 1)) fresh made → IsDelayed code path gs made
unfolding with_places delayed fresh_label
delayed_by code path gs anchor number target next at is fresh assume now same marked made led =
    let before = on_path path (length path - 2) in
    let last = on_path path (length path - 1) in
    let f = assume.is_fresh in
    let places : List Place → Place → List Place = λ ps from. slice_set ps before.0 from in
    let fresh_is = f.same in
    record {
      anchor = anchor;
      number = number;
      target = target;
      next = next;
      at_first = at;
      is_anchor = is;
      places = now.places;
      are_marked = marked;
      from = led.from;
      at_from = led.at;
      last = assume.last;
      at_last = assume.at;
      backs = f.backs;
      with_pair = f.with_pair;
      same = led.same
          ∙ ap (λ (k : Code). with_places k (slice_set now.places before.0 (with_instr (led_edge last (fresh_label now) led.from.instr) led.from) ++ fresh
          ∷ [])) same
          ∙ ap (λ (l : ℕ). with_places code (slice_set now.places before.0 (with_instr (led_edge last (record { 0 = l }) led.from.instr) led.from) ++ fresh
          ∷ [])) marked.count
          ∙ ap (λ (p : Place). with_places code (slice_set now.places before.0 (with_instr (led_edge last (fresh_label code) led.from.instr) led.from) ++ p
          ∷ [])) fresh_is;
    }
