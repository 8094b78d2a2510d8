-- Steps of base frames and of versions, from what their instructions did to the state.
use Rattle.std.proofs.Common.{◌≡◌, ◌∙◌, refl, sym, ap, subst, List, [], ◌∷◌, length, map, ℤ, Option, Some, true, false, ℕ}
use Rattle.std.proofs.Common.{Result, Ok, Err}
use Rattle.std.proofs.lemmas.List.{length-map}
use Rattle.std.specs.Prelude.{IfErr}
use Rattle.cj_ir.specs.Values.{operand_value}
use Rattle.cj_ir.specs.declared.language.FunId.{FunId}
use Rattle.cj_ir.specs.declared.language.Label.{Label}
use Rattle.cj_ir.specs.declared.language.Reg.{Reg}
use Rattle.cj_ir.specs.declared.language.Operand.{Operand}
use Rattle.cj_ir.specs.declared.language.Program.{Program}
use Rattle.cj_ir.specs.declared.language.Instr.{Instr}
use Rattle.cj_ir.specs.declared.language.Instr.TheVariants as base
use Rattle.cj_ir.specs.declared.texts.Text.{Text}
use Rattle.cj_base.specs.declared.machine.Frame.{Frame}
use Rattle.cj_base.specs.declared.machine.End.{End}
use Rattle.cj_base.specs.declared.machine.End.TheVariants.{Failed}
use Rattle.cj_base.specs.declared.machine.Turned.{Turned}
use Rattle.cj_base.specs.declared.machine.Turned.TheVariants.{Running, Ended}
use Rattle.cj_base.specs.Machine.{Effect, On, Calls, Returns, Faults, end_of, effect, branch}
use Rattle.cj_draft.specs.declared.points.Point.{Point}
use Rattle.cj_draft.specs.declared.instructions.VInstr.{VInstr}
use Rattle.cj_draft.specs.declared.instructions.VInstr.TheVariants as version
use Rattle.cj_draft.specs.Points.{frames_of}
use Rattle.cj_draft.specs.Effects.{VersionEffect, Plain, Guarded, version_effect}
use Rattle.cj_calls.specs.declared.report.Look.{Look}
use Rattle.cj_activations.specs.declared.windows.Position.TheVariants.{Base}
use Rattle.cj_activations.specs.Activations.{VersionFrame, Active, InBase, InVersion}
use Rattle.cj_activations.specs.Changes.{active_regs, position_of}
use Rattle.cj_machine.specs.declared.steps.Step.TheVariants as step
use Rattle.cj_machine.specs.Versions.{State, Codes, Continues, Finishes, counted, moved_to, passed, rebuilt, returns_to, turn_by, version_turn_by}
use Rattle.cj_machine.specs.Marks.{Branched, edge_of, effect_marks, base_marks, version_marks}
use Rattle.cj_machine.specs.Machines.{went_on, CarriesOut, progress_of}
use Rattle.cj_machine.specs.Stepping.{IsStep, IsBaseStep, IsVersionStep, StaysIn, marks_told, step_of, BaseNeeds, VersionNeeds, EffectTakesMemory}
use Rattle.cj_machine.specs.Stepping.{VersionTakesMemory}

base_regs : (a : Active) (fr : Frame) → a ≡ InBase fr → active_regs a ≡ fr.regs
unfolding active_regs
base_regs a fr e = ap active_regs e

version_regs : (a : Active) (v : VersionFrame) → a ≡ InVersion v → active_regs a ≡ v.regs
unfolding active_regs
version_regs a v e = ap active_regs e

-- ---- effects that neither call nor return

on_step : (P : Program) (args : List ℤ) (old new : State) (next : Label) (regs m printed : List ℤ) (answer : Turned)
    → CarriesOut (On next regs m printed) answer old new
    → IsStep P (λ codes look. turn_by P codes look old old.stack.top (On next regs m printed)) args old new (step_of answer)
unfolding turn_by went_on step_of
on_step P args old new next regs m printed Running c = λ codes look. sym c
on_step P args old new next regs m printed (Ended end) c = λ codes look. sym c

fault_step : (P : Program) (args : List ℤ) (old new : State) (e : Effect) (end : End) (answer : Turned)
    → ((codes : Codes) (look : Option Look) → turn_by P codes look old old.stack.top e ≡ Finishes end (counted old old.stack old.memory [] old.entries))
    → progress_of answer new ≡ Finishes end (counted old old.stack old.memory [] old.entries)
    → IsStep P (λ codes look. turn_by P codes look old old.stack.top e) args old new (step_of answer)
unfolding step_of
fault_step P args old new e end Running is c = λ codes look. is codes look ∙ sym c
fault_step P args old new e end (Ended by) is c = λ codes look. is codes look ∙ sym c

carried : (P : Program) (args : List ℤ) (old new : State) (e : Effect) (answer : Turned)
    → CarriesOut e answer old new → IsStep P (λ codes look. turn_by P codes look old old.stack.top e) args old new (step_of answer)
unfolding turn_by
carried P args old new (On next regs m printed) answer c = on_step P args old new next regs m printed answer c
carried P args old new (Faults fault) answer c = fault_step P args old new (Faults fault) (end_of fault) answer (λ codes look. refl) c
carried P args old new (Calls dest f given next) answer c = absurd c
carried P args old new (Returns v) answer c = absurd c

carried_at : (P : Program) (args : List ℤ) (old new : State) (top : Active) (e : Effect) (answer : Turned) → old.stack.top ≡ top
    → CarriesOut e answer old new → IsStep P (λ codes look. turn_by P codes look old top e) args old new (step_of answer)
carried_at P args old new top e answer is c =
    subst (λ (a : Active). IsStep P (λ codes look. turn_by P codes look old a e) args old new (step_of answer)) is (carried P args old new e answer c)

no_marks : (e : Effect) (answer : Turned) (old new : State) → CarriesOut e answer old new → effect_marks e ≡ []
unfolding effect_marks
no_marks (On next regs m printed) answer old new c = refl
no_marks (Faults fault) answer old new c = refl
no_marks (Calls dest f given next) answer old new c = absurd c
no_marks (Returns v) answer old new c = absurd c

none_told : (answer : Turned) (f : FunId) (label : Label) (args : List ℤ) → marks_told (step_of answer) f label args ≡ []
unfolding marks_told step_of
none_told Running f label args = refl
none_told (Ended end) f label args = refl

no_base_needs : (instr : Instr) (args : List ℤ) (answer : Turned) → BaseNeeds instr args (step_of answer)
unfolding step_of
no_base_needs instr args Running = tt
no_base_needs instr args (Ended end) = tt

no_version_needs : (instr : VInstr) (args : List ℤ) (answer : Turned) → VersionNeeds instr args (step_of answer)
unfolding step_of
no_version_needs instr args Running = tt
no_version_needs instr args (Ended end) = tt

-- an instruction of a base frame, no cond
pub base_by : (instr : Instr) (args : List ℤ) (old new : State) (answer : Turned) (e : List ℤ → Effect)
    → ((fr : Frame) → effect instr fr old.memory ≡ e fr.regs)
    → ((fr : Frame) → base_marks fr old.memory (Some instr) ≡ effect_marks (effect instr fr old.memory))
    → CarriesOut (e (active_regs old.stack.top)) answer old new → IsBaseStep instr args old new (step_of answer)
base_by instr args old new answer e is marks c = record {
  made = λ P fr top.
      subst (λ x. IsStep P (λ codes look. turn_by P codes look old (InBase fr) x) args old new (step_of answer)) (sym (is fr))
      (carried_at P args old new (InBase fr) (e fr.regs) answer top
      (subst (λ regs. CarriesOut (e regs) answer old new) (base_regs old.stack.top fr top) c));
  marks = λ fr top.
      marks fr ∙ ap effect_marks (is fr)
      ∙ no_marks (e fr.regs) answer old new (subst (λ regs. CarriesOut (e regs) answer old new) (base_regs old.stack.top fr top) c)
      ∙ sym (none_told answer fr.function fr.label args);
  needs = no_base_needs instr args answer;
}

-- such an effect leaves a version where it was, but for its label
stays_by : (e : Effect) (answer : Turned) (old new : State) (v : VersionFrame) → old.stack.top ≡ InVersion v → CarriesOut e answer old new →
    StaysIn v new (step_of answer)
unfolding step_of went_on counted moved_to position_of
stays_by e (Ended end) old new v top c = tt
stays_by (On next regs m printed) Running old new v top c =
    let same : new ≡ went_on old next regs m printed = cc in
    (next, rw (same, top) refl)
stays_by (Faults fault) Running old new v top c = let never : ⊥ = cc in absurd never
stays_by (Calls dest f given next) Running old new v top c = absurd c
stays_by (Returns x) Running old new v top c = absurd c

-- an instruction of a version, no Assume
pub version_by : (instr : VInstr) (args : List ℤ) (old new : State) (answer : Turned) (e : List ℤ → Effect)
    → ((regs : List ℤ) → version_effect instr regs old.memory ≡ Plain (e regs))
    → CarriesOut (e (active_regs old.stack.top)) answer old new → IsVersionStep instr args old new (step_of answer)
unfolding version_turn_by version_marks
version_by instr args old new answer e is c = record {
  made = λ P v top.
      subst (λ x. IsStep P (λ codes look. version_turn_by P codes look old v x) args old new (step_of answer)) (sym (is v.regs))
      (carried_at P args old new (InVersion v) (e v.regs) answer top
      (subst (λ regs. CarriesOut (e regs) answer old new) (version_regs old.stack.top v top) c));
  marks = λ v top.
      ap (version_marks v) (is v.regs)
      ∙ no_marks (e v.regs) answer old new (subst (λ regs. CarriesOut (e regs) answer old new) (version_regs old.stack.top v top) c)
      ∙ sym (none_told answer v.function v.label args);
  needs = no_version_needs instr args answer;
  stays = λ v top. stays_by (e (active_regs old.stack.top)) answer old new v top c;
}

-- ---- a cond of a base frame

pub base_branches : (test : Operand) (then_to else_to : Label) (args : List ℤ) (old new : State)
    → new ≡ went_on old (branch (operand_value (active_regs old.stack.top) test) then_to else_to) (active_regs old.stack.top) old.memory []
    → IsBaseStep (base.Cond test then_to else_to) args old new (step.Branches (edge_of (operand_value (active_regs old.stack.top) test)))
unfolding effect base_marks marks_told step_of
base_branches test then_to else_to args old new is = record {
  made = λ P fr top codes look.
      carried_at P args old new (InBase fr) (On (branch (operand_value fr.regs test) then_to else_to) fr.regs old.memory []) Running top
      (subst (λ regs. Continues new ≡ Continues (went_on old (branch (operand_value regs test) then_to else_to) regs old.memory []))
      (base_regs old.stack.top fr top) (ap Continues is))
      codes look;
  marks = λ fr top. ap (λ regs. Branched fr.function fr.label (edge_of (operand_value regs test)) ∷ []) (sym (base_regs old.stack.top fr top));
  needs = tt;
}

-- ---- calls and returns

pub base_enters : (dest : Reg) (f : FunId) (given : List Operand) (next : Label) (args : List ℤ) (s : State)
    → args ≡ map (operand_value (active_regs s.stack.top)) given → IsBaseStep (base.Call dest f given next) args s s (step.Enters dest f next)
unfolding effect base_marks effect_marks marks_told
base_enters dest f given next args s is = record {
  made = λ P fr top. (
    refl,
    λ codes look.
        rw (← top, ← base_regs s.stack.top fr top, ← is) refl,
  );
  marks = λ fr top. rw (← base_regs s.stack.top fr top, ← is) refl;
  needs = (given, refl, ap length is ∙ length-map given (operand_value (active_regs s.stack.top)));
}

pub base_returns : (value : Operand) (v : ℤ) (args : List ℤ) (s : State) → v ≡ operand_value (active_regs s.stack.top) value
    → IsBaseStep (base.Return value) args s s (step.Returns v)
unfolding effect base_marks effect_marks marks_told turn_by
base_returns value v args s is = record {
  made = λ P fr top. (
    refl,
    λ codes look. ap (λ x. returns_to codes s x s.stack.waiting)
        (sym (is ∙ ap (λ regs. operand_value regs value) (base_regs s.stack.top fr top))),
  );
  marks = λ fr top. refl;
  needs = tt;
}

pub version_enters : (dest : Reg) (f : FunId) (given : List Operand) (next : Label) (args : List ℤ) (s : State)
    → args ≡ map (operand_value (active_regs s.stack.top)) given → IsVersionStep (version.Call dest f given next) args s s (step.Enters dest f next)
unfolding version_effect version_turn_by version_marks effect_marks marks_told
version_enters dest f given next args s is = record {
  made = λ P v top. (
    refl,
    λ codes look.
        rw (← top, ← version_regs s.stack.top v top, ← is) refl,
  );
  marks = λ v top. rw (← version_regs s.stack.top v top, ← is) refl;
  needs = (given, refl, ap length is ∙ length-map given (operand_value (active_regs s.stack.top)));
  stays = λ v top. tt;
}

pub version_returns : (value : Operand) (x : ℤ) (args : List ℤ) (s : State) → x ≡ operand_value (active_regs s.stack.top) value
    → IsVersionStep (version.Return value) args s s (step.Returns x)
unfolding version_effect version_turn_by version_marks effect_marks marks_told turn_by
version_returns value x args s is = record {
  made = λ P v top. (
    refl,
    λ codes look. ap (λ y. returns_to codes s y s.stack.waiting)
        (sym (is ∙ ap (λ regs. operand_value regs value) (version_regs s.stack.top v top))),
  );
  marks = λ v top. refl;
  needs = tt;
  stays = λ v top. tt;
}

-- ---- failures of base frames

pub base_fails : (text : Text) (f : FunId) (label : Label) (args : List ℤ) (old new : State) → position_of old.stack.top ≡ Base f label
    → new ≡ counted old old.stack old.memory [] old.entries → IsBaseStep (base.Fail text) args old new (step.Ends (Failed f label))
unfolding effect base_marks effect_marks marks_told turn_by position_of end_of
base_fails text f label args old new at is = record {
  made = λ P fr top codes look.
      (let same : Base fr.function fr.label ≡ Base f label = sym (ap position_of top) ∙ at in
      let one : fr.function ≡ f = cc in
      let two : fr.label ≡ label = cc in
      rw (one, two, is) refl);
  marks = λ fr top. refl;
  needs = tt;
}

-- ---- Assumes

pub version_passes_by : (instr : VInstr) (args : List ℤ) (old new : State) (back : ℕ) (target : Point) (next : Label)
    → version_effect instr (active_regs old.stack.top) old.memory ≡ Guarded true back target next
    → ((v : VersionFrame) → old.stack.top ≡ InVersion v → new ≡ passed old v next)
    → IsVersionStep instr args old new step.Goes
unfolding version_turn_by version_marks marks_told passed moved_to position_of
version_passes_by instr args old new back target next is goes = record {
  made = λ P v top codes look.
      ap (version_turn_by P codes look old v) (ap (λ regs. version_effect instr regs old.memory) (sym (version_regs old.stack.top v top)) ∙ is)
      ∙ ap Continues (sym (goes v top));
  marks = λ v top. ap (version_marks v) (ap (λ regs. version_effect instr regs old.memory) (sym (version_regs old.stack.top v top)) ∙ is);
  needs = tt;
  stays = λ v top. (next, rw (goes v top) refl);
}

pub version_fails_by : (instr : VInstr) (args : List ℤ) (old new : State) (back : ℕ) (target : Point) (next : Label)
    → version_effect instr (active_regs old.stack.top) old.memory ≡ Guarded false back target next
    → ((P : Program) → new ≡ rebuilt old back (frames_of P target (active_regs old.stack.top)))
    → IsVersionStep instr args old new step.Fails
unfolding version_turn_by version_marks marks_told
version_fails_by instr args old new back target next is goes = record {
  made = λ P v top codes look.
      ap (version_turn_by P codes look old v) (ap (λ regs. version_effect instr regs old.memory) (sym (version_regs old.stack.top v top)) ∙ is)
      ∙ ap Continues (ap (λ regs. rebuilt old back (frames_of P target regs)) (sym (version_regs old.stack.top v top)) ∙ sym (goes P));
  marks = λ v top. ap (version_marks v) (ap (λ regs. version_effect instr regs old.memory) (sym (version_regs old.stack.top v top)) ∙ is);
  needs = tt;
  stays = λ v top. tt;
}

-- ---- want of memory

pub base_needs : {A E : Type 0} (r : Result A E) (instr : Instr) (top : Active) (m : List ℤ) → ((fr : Frame) → EffectTakesMemory (effect instr fr m))
    → IfErr r (λ refused. (fr : Frame) → top ≡ InBase fr → EffectTakesMemory (effect instr fr m))
base_needs (Ok x) instr top m all = tt
base_needs (Err e) instr top m all = λ fr is. all fr

pub version_needs : {A E : Type 0} (r : Result A E) (e : VersionEffect) → VersionTakesMemory e → IfErr r (λ refused. VersionTakesMemory e)
version_needs (Ok x) e all = tt
version_needs (Err refused) e all = all
