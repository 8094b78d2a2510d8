-- The turn of a base frame and of a version, from its step and what was left to do after it.
use Rattle.std.proofs.Common.{◌≡◌, ◌∙◌, refl, sym, ap, subst, ℕ, ◌≤◌, List, length, Option, Some, ℤ}
use Rattle.std.specs.Option.{option_map}
use Rattle.std.specs.Prelude.{slice_get, Result, Ok, Err, IfErr}
use Rattle.std.proofs.lemmas.Option.{same_Some}
use Rattle.cj_ir.specs.WellFormed.{IsInstrFine}
use Rattle.cj_ir.specs.Program.{instr_at, line_at, label_count}
use Rattle.cj_ir.specs.declared.language.FunId.{FunId}
use Rattle.cj_ir.specs.declared.language.Label.{Label}
use Rattle.cj_ir.specs.declared.language.Line.{Line}
use Rattle.cj_ir.specs.declared.language.Program.{Program}
use Rattle.cj_ir.specs.declared.language.Instr.{Instr}
use Rattle.cj_base.specs.declared.machine.Frame.{Frame}
use Rattle.cj_base.specs.Machine.{effect}
use Rattle.cj_draft.specs.Effects.{version_effect}
use Rattle.cj_draft.specs.declared.instructions.VInstr.{VInstr}
use Rattle.cj_draft.specs.declared.code.Place.{Place}
use Rattle.cj_draft.specs.declared.code.Code.{Code}
use Rattle.cj_draft.specs.WellNamed.{IsVInstrFine}
use Rattle.cj_draft.specs.Arrives.{place_at}
use Rattle.cj_calls.specs.declared.report.Look.{Look}
use Rattle.cj_activations.specs.declared.windows.Position.TheVariants.{Base, Version}
use Rattle.cj_activations.specs.Activations.{VersionFrame, Active, InBase}
use Rattle.cj_activations.specs.Changes.{active_regs, position_of}
use Rattle.cj_machine.specs.declared.steps.Step.{Step}
use Rattle.cj_machine.specs.declared.steps.Step.TheVariants as step
use Rattle.cj_machine.specs.declared.steps.Step.TheVariants.{Goes}
use Rattle.cj_machine.specs.Versions.{State, Codes, Progress, version_turn, version_turn_by}
use Rattle.cj_machine.specs.Marks.{version_marks, turn_marks}
use Rattle.cj_machine.specs.CodeMaps.{Grows}
use Rattle.cj_machine.specs.Stepping.{Turn, StandsAt, IsStep, IsReady, CanGoBack, IsBaseStep, IsVersionStep, StaysIn, BaseNeeds, VersionNeeds}
use Rattle.cj_machine.specs.Stepping.{EffectTakesMemory, VersionTakesMemory, BaseTakesMemory, PlaceTakesMemory, TopTakesMemory, TurnTakesMemory, IsEntry}
use Rattle.cj_machine.specs.Stepping.{marks_told}
use Rattle.cj_engine.specs.Engines.{CanTurn}
use Rattle.cj_engine.specs.Stretches.{IsCarried}
use Rattle.cj_machine.proofs.Arms.{place_is, turn_at_base, turn_at_version, marks_at_base, marks_at_version}
use Rattle.cj_engine.proofs.Fitting.{IsBaseTop, base_top, line_instr, base_fits, IsVersionTop, version_top, version_fits}

-- a step that leaves an entry is that of a call
entry_takes : (instr : Instr) (args : List ℤ) (step : Step) (fr : Frame) (m : List ℤ) → BaseNeeds instr args step → IsEntry step →
    EffectTakesMemory (effect instr fr m)
unfolding effect
entry_takes instr args (step.Enters dest g next) fr m needs enters =
    subst (λ (i : Instr). EffectTakesMemory (effect i fr m)) (sym needs.1) tt
entry_takes instr args step.Goes fr m needs enters = absurd enters
entry_takes instr args (step.Branches edge) fr m needs enters = absurd enters
entry_takes instr args (step.Ends end) fr m needs enters = absurd enters
entry_takes instr args (step.Returns v) fr m needs enters = absurd enters
entry_takes instr args step.Fails fr m needs enters = absurd enters

version_call_takes : (instr : VInstr) (args : List ℤ) (step : Step) (regs m : List ℤ) → VersionNeeds instr args step → IsEntry step →
    VersionTakesMemory (version_effect instr regs m)
unfolding version_effect
version_call_takes instr args (step.Enters dest g next) regs m needs enters =
    subst (λ (i : VInstr). VersionTakesMemory (version_effect i regs m)) (sym needs.1) tt
version_call_takes instr args step.Goes regs m needs enters = absurd enters
version_call_takes instr args (step.Branches edge) regs m needs enters = absurd enters
version_call_takes instr args (step.Ends end) regs m needs enters = absurd enters
version_call_takes instr args (step.Returns v) regs m needs enters = absurd enters
version_call_takes instr args step.Fails regs m needs enters = absurd enters

-- such a step has changed nothing yet
entry_same : (P : Program) (turn : Turn) (args : List ℤ) (old now : State) (step : Step) → IsStep P turn args old now step → IsEntry step → now ≡ old
entry_same P turn args old now (step.Enters dest g next) made enters = made.0
entry_same P turn args old now step.Goes made enters = absurd enters
entry_same P turn args old now (step.Branches edge) made enters = absurd enters
entry_same P turn args old now (step.Ends end) made enters = absurd enters
entry_same P turn args old now (step.Returns v) made enters = absurd enters
entry_same P turn args old now step.Fails made enters = absurd enters

-- A base frame on top, at a line that was found.
module _ {P : Program} {codes : Codes} {s : State} {f : FunId} {label : Label} {line : Line} (can : CanTurn P codes s) (position : position_of s.stack.top
    ≡ Base f label) (found : line_at P f label ≡ Some line) where
  top_here : IsBaseTop P s.stack.top f label
  top_here = base_top P codes s.base_turns s.stack.top f label position can.top

  at_line : instr_at P f label ≡ Some line.instr
  at_line = ap (option_map (λ (l : Line). l.instr)) found

  pub base_fine : IsInstrFine P.functions (length (active_regs s.stack.top)) (label_count P f) line.instr
  base_fine = subst (IsInstrFine P.functions (length (active_regs s.stack.top)) (label_count P f)) (line_instr P f label line top_here.instr found top_here.at)
      top_here.fine

  own_at : instr_at P top_here.frame.function top_here.frame.label ≡ Some line.instr
  own_at = subst (λ (g : FunId). instr_at P g top_here.frame.label ≡ Some line.instr) (sym top_here.function)
      (subst (λ (l : Label). instr_at P f l ≡ Some line.instr) (sym top_here.at_label) at_line)

  pub base_takes : ((fr : Frame) → s.stack.top ≡ InBase fr → EffectTakesMemory (effect line.instr fr s.memory)) → TurnTakesMemory P codes s
  base_takes takes =
      subst (TopTakesMemory P codes s.memory) (sym top_here.top)
      (subst (BaseTakesMemory top_here.frame s.memory) (sym own_at) (takes top_here.frame top_here.top))

  module _ {now : State} {args : List ℤ} {step : Step} (made : IsBaseStep line.instr args s now step) where
    pub base_step_ready : IsReady P codes args f label now step
    base_step_ready = base_fits P codes _ args f label s now line.instr step can at_line base_fine made.needs (made.made P top_here.frame top_here.top)

    pub base_entry_same : IsEntry step → now ≡ s
    base_entry_same enters = entry_same P _ args s now step (made.made P top_here.frame top_here.top) enters

    pub base_entry_takes : IsEntry step → TurnTakesMemory P codes s
    base_entry_takes enters = base_takes (λ fr top. entry_takes line.instr args step fr s.memory made.needs enters)

    pub base_turn_done : {later : Codes} {final : Progress} {first looks : List Look} (found_looks : List Look) → first ≡ looks →
        IsCarried P args now step later (slice_get found_looks (length first)) final → version_turn P later (slice_get found_looks (length looks)) s ≡ final
    base_turn_done {later} {final} {first} {looks} found_looks same carried =
        let look : Option Look = slice_get found_looks (length first) in
        subst (λ (xs : List Look). version_turn P later (slice_get found_looks (length xs)) s ≡ final) same
        (turn_at_base P later look s top_here.frame line.instr top_here.top own_at ∙ carried _ s (made.made P top_here.frame top_here.top))

    pub base_marks_done : (later : Codes) → turn_marks P later s ≡ marks_told step f label args
    base_marks_done later =
        marks_at_base P later s top_here.frame line.instr top_here.top own_at ∙ made.marks top_here.frame top_here.top
        ∙ ap (λ (g : FunId). marks_told step g top_here.frame.label args) top_here.function ∙ ap (λ (l : Label). marks_told step f l args) top_here.at_label

-- A version on top.
module _ {P : Program} {codes : Codes} {s : State} {f : FunId} {offset : ℕ} {label : Label} (can : CanTurn P codes s) (position : position_of s.stack.top
    ≡ Version f offset label) where
  version_here : IsVersionTop P codes s.base_turns s.stack.top f offset label
  version_here = version_top P codes s.base_turns s.stack.top f offset label position can.top

  pub version_there : (instr : VInstr) × StandsAt codes f offset label instr
  version_there = (
    version_here.place.instr,
    record
        { code = version_here.code; place = version_here.place; found = version_here.found; at = version_here.at; is = refl },
  )

  -- at an instruction that was found
  module _ {instr : VInstr} (there : StandsAt codes f offset label instr) where
    same_code : version_here.code ≡ there.code
    same_code = same_Some version_here.code there.code (sym version_here.found ∙ there.found)

    same_instr : version_here.place.instr ≡ instr
    same_instr = ap (λ (q : Place). q.instr)
        (same_Some version_here.place there.place (sym version_here.at ∙ ap (λ (c : Code). place_at c label) same_code ∙ there.at)) ∙ there.is

    pub version_few : length (active_regs s.stack.top) ≤ 128
    version_few = version_here.few_regs

    pub version_fine : (labels : ℕ) × IsVInstrFine P (length (active_regs s.stack.top)) labels instr
    version_fine = (
      length version_here.code.places,
      subst (IsVInstrFine P (length (active_regs s.stack.top)) (length version_here.code.places)) same_instr
          version_here.fine,
    )

    pub version_back : CanGoBack s.base_turns instr
    version_back = subst (CanGoBack s.base_turns) same_instr version_here.back

    pub version_takes : VersionTakesMemory (version_effect instr (active_regs s.stack.top) s.memory) → TurnTakesMemory P codes s
    unfolding active_regs
    version_takes takes =
        let v : VersionFrame = version_here.frame in
        let own = subst (λ (a : Active). VersionTakesMemory (version_effect instr (active_regs a) s.memory)) version_here.top takes in
        let placed = subst (λ (i : VInstr). VersionTakesMemory (version_effect i v.regs s.memory)) (sym same_instr) own in
        subst (TopTakesMemory P codes s.memory) (sym version_here.top)
        (subst (PlaceTakesMemory v s.memory) (sym (place_is codes v version_here.code version_here.place version_here.found_own version_here.at_own)) placed)

    module _ {now : State} {args : List ℤ} {step : Step} (made : IsVersionStep instr args s now step) where
      pub version_step_ready : IsReady P codes args f label now step
      version_step_ready = version_fits P codes _ args f label version_fine.0 s now instr step can version_here.inside version_fine.1 made.needs
          (made.made P version_here.frame version_here.top)

      pub version_entry_same : IsEntry step → now ≡ s
      version_entry_same enters = entry_same P _ args s now step (made.made P version_here.frame version_here.top) enters

      pub version_entry_takes : IsEntry step → TurnTakesMemory P codes s
      version_entry_takes enters = version_takes (version_call_takes instr args step (active_regs s.stack.top) s.memory made.needs enters)

      -- a step that leaves nothing to do stays where it was, but for its label
      pub version_stays : step ≡ Goes → (next : Label) × (position_of now.stack.top ≡ Version f offset next)
      unfolding position_of
      version_stays is =
          let v = version_here.frame in
          let same : Version v.function v.offset v.label ≡ Version f offset label = sym (ap position_of version_here.top) ∙ position in
          let function : v.function ≡ f = cc in
          let at : v.offset ≡ offset = cc in
          let stay = subst (StaysIn v now) is (made.stays v version_here.top) in
          (stay.0, stay.1 ∙ ap (λ (g : FunId). Version g v.offset stay.0) function ∙ ap (λ (n : ℕ). Version f n stay.0) at)

      pub version_turn_done : {later : Codes} {final : Progress} {first looks : List Look} (found_looks : List Look) → Grows codes later → first ≡ looks →
          IsCarried P args now step later (slice_get found_looks (length first)) final → version_turn P later (slice_get found_looks (length looks)) s ≡ final
      version_turn_done {later} {final} {first} {looks} found_looks grows same carried =
          let v : VersionFrame = version_here.frame in
          let look : Option Look = slice_get found_looks (length first) in
          subst (λ (xs : List Look). version_turn P later (slice_get found_looks (length xs)) s ≡ final) same
          (turn_at_version P later look s v version_here.code version_here.place version_here.top
          (grows v.function v.offset version_here.code version_here.found_own) version_here.at_own
          ∙ ap (λ (i : VInstr). version_turn_by P later look s v (version_effect i v.regs s.memory)) same_instr ∙ carried _ s (made.made P v version_here.top))

      pub version_turn_over : {later : Codes} {final : Progress} (look : Option Look) → Grows codes later → IsCarried P args now step later look final →
          version_turn P later look s ≡ final
      version_turn_over {later} {final} look grows carried =
          let v : VersionFrame = version_here.frame in
          turn_at_version P later look s v version_here.code version_here.place version_here.top
          (grows v.function v.offset version_here.code version_here.found_own) version_here.at_own
          ∙ ap (λ (i : VInstr). version_turn_by P later look s v (version_effect i v.regs s.memory)) same_instr ∙ carried _ s (made.made P v version_here.top)

      pub version_marks_done : (later : Codes) → Grows codes later → turn_marks P later s ≡ marks_told step f label args
      version_marks_done later grows =
          let v : VersionFrame = version_here.frame in
          marks_at_version P later s v version_here.code version_here.place version_here.top
          (grows v.function v.offset version_here.code version_here.found_own) version_here.at_own
          ∙ ap (λ (i : VInstr). version_marks v (version_effect i v.regs s.memory)) same_instr ∙ made.marks v version_here.top
          ∙ ap (λ (h : FunId). marks_told step h v.label args) version_here.function ∙ ap (λ (l : Label). marks_told step f l args) version_here.at_label

pub refused_then : {A E : Type 0} (r : Result A E) (Q : Type 0) → Q → IfErr r (λ refused. Q)
refused_then (Ok x) Q q = tt
refused_then (Err refused) Q q = q
