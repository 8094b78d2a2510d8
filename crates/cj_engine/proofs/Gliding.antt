-- Quiet turns of a version, one after the other.
use Rattle.std.proofs.Common.{◌≡◌, ◌≢◌, ◌∙◌, sym, subst, arith, ℕ, ◌+◌, ◌<◌, ◌≤◌, List, Some, None}
use Rattle.std.proofs.lemmas.Option.{same_Some}
use Rattle.std.specs.Prelude.{ℤ}
use Rattle.cj_ir.specs.WellFormed.{IsWellFormed}
use Rattle.cj_ir.specs.declared.language.FunId.{FunId}
use Rattle.cj_ir.specs.declared.language.Label.{Label}
use Rattle.cj_ir.specs.declared.language.Program.{Program}
use Rattle.cj_base.specs.declared.machine.Turned.TheVariants.{Running}
use Rattle.cj_draft.specs.declared.instructions.VInstr.{VInstr}
use Rattle.cj_draft.specs.declared.code.Place.{Place}
use Rattle.cj_draft.specs.declared.code.Code.{Code}
use Rattle.cj_draft.specs.Arrives.{place_at}
use Rattle.cj_activations.specs.declared.windows.Position.TheVariants.{Version}
use Rattle.cj_activations.specs.Changes.{position_of}
use Rattle.cj_machine.specs.declared.steps.Step.{Step}
use Rattle.cj_machine.specs.declared.steps.Step.TheVariants.{Goes}
use Rattle.cj_machine.specs.Versions.{State, Codes, Continues}
use Rattle.cj_machine.specs.CodeMaps.{SoundCodes, Grows}
use Rattle.cj_machine.specs.Stands.{Holds}
use Rattle.cj_machine.specs.Stepping.{StandsAt, IsVersionStep, marks_told}
use Rattle.cj_engine.specs.Engines.{CanTurn, HasRoom}
use Rattle.cj_engine.specs.Stretches.{IsQuiet, Quiet, Stops}
use Rattle.cj_machine.proofs.Going.{turn_counted}
use Rattle.cj_engine.proofs.Standing.{way_turns}
use Rattle.cj_machine.proofs.Turns.{later_turn_holds}
use Rattle.cj_engine.proofs.Turning.{version_there, version_turn_over, version_marks_done, version_step_ready, version_entry_same, version_entry_takes}

pub same_codes : (codes : Codes) → Grows codes codes
same_codes codes f offset code found = found

pub some_turn : (n : ℕ) → n ≢ 0 → 1 ≤ n
some_turn n other = grind arith

pub room_turns : (P : Program) (codes : Codes) (count : ℕ) (s : State) → IsWellFormed P → SoundCodes P codes → HasRoom P codes count s → 0 < count →
    CanTurn P codes s
room_turns P codes count s formed sound r more =
    let room = r.room in
    way_turns P codes s formed sound (record { call = r.call; takes = r.takes; stands = r.stands; before = omega arith; limit = r.limit })

pub room_after : (P : Program) (codes : Codes) (count left : ℕ) (s t : State) → IsWellFormed P → SoundCodes P codes → HasRoom P codes count s →
    left + 1 ≡ count → IsQuiet P codes s t → HasRoom P codes left t
room_after P codes count left s t formed sound r fewer q =
    let turn = q.turn codes None (same_codes codes) in
    let counted : t.turns ≡ s.turns + 1 = turn_counted P codes None s t Running turn in
    let room = r.room in
    record {
      call = r.call;
      takes = r.takes;
      stands = subst (Holds P codes r.call) turn (later_turn_holds P codes codes r.call None s formed (same_codes codes) sound r.stands);
      room = omega arith;
      limit = r.limit;
    }

module _ {P : Program} {codes : Codes} {s : State} {f : FunId} {offset : ℕ} {label : Label} (can : CanTurn P codes s) (position : position_of s.stack.top
    ≡ Version f offset label) where
  pub placed_here : (code : Code) → codes f offset ≡ Some code → (q : Place) × (place_at code label ≡ Some q)
  placed_here code found =
      let there = (version_there can position).1 in
      (there.place, subst (λ (c : Code). place_at c label ≡ Some there.place) (same_Some there.code code (sym there.found ∙ found)) there.at)

  pub stands_here : (code : Code) (instr : VInstr) → codes f offset ≡ Some code → ((q : Place) → place_at code label ≡ Some q → q.instr ≡ instr) →
      StandsAt codes f offset label instr
  stands_here code instr found is =
      let placed = placed_here code found in
      record { code = code; place = placed.0; found = found; at = placed.1; is = is placed.0 placed.1 }

  module _ {instr : VInstr} (there : StandsAt codes f offset label instr) {now : State} {args : List ℤ} where
    pub goes_quietly : {step : Step} → IsVersionStep instr args s now step → step ≡ Goes → now.entries ≡ s.entries → IsQuiet P codes s now
    unfolding marks_told
    goes_quietly {step} made0 is entries =
        let made : IsVersionStep instr args s now Goes = subst (IsVersionStep instr args s now) is made0 in
        record {
          turn = λ later look grows. version_turn_over can position there made {later = later} {final = Continues now} look grows
              (λ turn before is. is later look);
          marks = λ later grows. version_marks_done can position there made later grows;
          entries = entries;
        }

    pub stops_here : {step : Step} {first : State} (turns count : ℕ) → turns + 1 ≤ count → step ≢ Goes → IsVersionStep instr args s now step →
        Quiet P codes turns first s → Stops P codes args f label count first now step
    stops_here {step} {first} turns count fewer stops made quiet = record {
      turns = turns;
      fewer = fewer;
      stops = stops;
      mid = s;
      quiet = quiet;
      done = λ later look final grows carried. version_turn_over can position there made {later = later} {final = final} look grows carried;
      marks = λ later grows. version_marks_done can position there made later grows;
      ready = version_step_ready can position there made;
      entry = version_entry_same can position there made;
      takes = version_entry_takes can position there made;
    }
