use Rattle.std.proofs.Common.{◌≡◌, ◌∙◌, sym, subst, refl, inl}
use Rattle.cj_base.specs.declared.machine.Frame.{Frame}
use Rattle.cj_base.specs.Machine.{effect}
use Rattle.cj_activations.specs.Activations.{InBase}
use Rattle.cj_engine.proofs.Onwards.{takes_later, refused_so}
use Rattle.cj_ir.specs.Program.{label_count}
use Rattle.cj_ir.specs.WellFormed.{IsInstrFine}
use Rattle.cj_ir.specs.declared.language.Instr.{Instr}
use Rattle.cj_machine.specs.Machines.{state_of}
use Rattle.cj_machine.specs.Stepping.{IsBaseStep, EffectTakesMemory, TurnTakesMemory}
use Rattle.cj_engine.proofs.Fitting.{gains_from}
use Rattle.cj_engine.proofs.Turning.{base_fine, base_step_ready, base_turn_done, base_marks_done, base_takes, base_entry_takes, base_entry_same, refused_then}
use Rattle.cj_machine.proofs.Landing.{same_machine}
use Rattle.cj_engine.specs.Watching.{TellsAtMost}
use Rattle.cj_machine.specs.Marks.{turn_marks}
use Rattle.cj_engine.proofs.runner.Runner.turn_base.Goals as goal

pub step_base-requires-clause-fine : goal.step_base-requires-clause-fine
unfolding state_of
step_base-requires-clause-fine g c =
    let P = c.args.self.now.checked.now in (
      P.functions,
      label_count P c.args.function,
      subst (IsInstrFine P.functions _ (label_count P c.args.function)) c.requires.line.2
          (base_fine c.requires.can c.requires.position c.requires.line.1),
    )

pub carry-requires-clause-fits : goal.carry-requires-clause-fits
unfolding state_of
carry-requires-clause-fits g c =
    base_step_ready c.requires.can c.requires.position c.requires.line.1
    (subst (λ (i : Instr). IsBaseStep i c.step_base.new.scratch (state_of c.args.self.now.machine) (state_of c.step_base.new.self) c.in_ok-step.step)
    (sym c.requires.line.2) c.in_ok-step.ensures.made)

pub returns-clause-made : goal.returns-clause-made
unfolding state_of
returns-clause-made g c =
    base_turn_done c.requires.can c.requires.position c.requires.line.1
    (subst (λ (i : Instr). IsBaseStep i c.step_base.new.scratch (state_of c.args.self.now.machine) (state_of c.step_base.new.self) c.in_ok-step.step)
    (sym c.requires.line.2) c.in_ok-step.ensures.made) _ c.in_ok-step.ensures.looks c.in_ok-turned.ensures.made

pub returns-clause-gains : goal.returns-clause-gains
unfolding state_of
returns-clause-gains g c =
    gains_from _ _ _ _ _ c.in_ok-step.ensures.looks c.in_ok-turned.ensures.gains

pub returns-clause-went : goal.returns-clause-went
unfolding state_of
returns-clause-went g c =
    rw (base_marks_done c.requires.can c.requires.position c.requires.line.1
    (subst (λ (i : Instr). IsBaseStep i c.step_base.new.scratch (state_of c.args.self.now.machine) (state_of c.step_base.new.self) c.in_ok-step.step)
    (sym c.requires.line.2) c.in_ok-step.ensures.made) (g.W.Watch.codes c.carry.new.watch)) c.in_ok-turned.ensures.went

pub returns-in_err-step-clause-only_then : goal.returns-in_err-step-clause-only_then
unfolding state_of
returns-in_err-step-clause-only_then g c =
    refused_then _ _ (base_takes c.requires.can c.requires.position c.requires.line.1
    (subst (λ (i : Instr). (fr : Frame) → c.args.self.now.machine.activations.top ≡ InBase fr →
    EffectTakesMemory (effect i fr c.args.self.now.machine.memory)) (sym c.requires.line.2) c.in_err-step.ensures.only_then))

pub returns-in_err-step-clause-told : goal.returns-in_err-step-clause-told
unfolding state_of
returns-in_err-step-clause-told g c = refused_so _ _ (inl (g.met.W.Watch.went_nowhere _, refl))

pub returns-in_err-turned-clause-only_then : goal.returns-in_err-turned-clause-only_then
unfolding state_of
returns-in_err-turned-clause-only_then g c =
    let P = c.args.self.now.checked.now in
    let s = state_of c.args.self.now.machine in
    let early = base_entry_takes c.requires.can c.requires.position c.requires.line.1
    (subst (λ (i : Instr). IsBaseStep i c.step_base.new.scratch (state_of c.args.self.now.machine) (state_of c.step_base.new.self) c.in_ok-step.step)
    (sym c.requires.line.2) c.in_ok-step.ensures.made) c.in_err-turned.ensures.only_then in
    let takes : TurnTakesMemory P (g.W.Watch.codes c.carry.new.watch) s = takes_later P (g.W.Watch.codes c.args.watch.now)
    (g.W.Watch.codes c.carry.new.watch) s c.in_err-turned.ensures.keeps.grows early in
    refused_then _ _ takes

pub returns-in_err-turned-clause-told : goal.returns-in_err-turned-clause-told
unfolding state_of
returns-in_err-turned-clause-told g c =
    let marks = base_marks_done c.requires.can c.requires.position c.requires.line.1
    (subst (λ (i : Instr). IsBaseStep i c.step_base.new.scratch (state_of c.args.self.now.machine) (state_of c.step_base.new.self) c.in_ok-step.step)
    (sym c.requires.line.2) c.in_ok-step.ensures.made) (g.W.Watch.codes c.carry.new.watch) in
    let told : TellsAtMost (g.W.Watch.went c.args.watch.now c.carry.new.watch) (g.W.Watch.trail c.args.watch.now) (g.W.Watch.trail c.carry.new.watch)
    (turn_marks c.args.self.now.checked.now (g.W.Watch.codes c.carry.new.watch) (state_of c.args.self.now.machine)) = rw marks c.in_err-turned.ensures.told
    in
    refused_so _ _ told

pub returns-in_err-turned-clause-no_memory : goal.returns-in_err-turned-clause-no_memory
unfolding state_of
returns-in_err-turned-clause-no_memory g c =
    let same = base_entry_same c.requires.can c.requires.position c.requires.line.1
    (subst (λ (i : Instr). IsBaseStep i c.step_base.new.scratch (state_of c.args.self.now.machine) (state_of c.step_base.new.self) c.in_ok-step.step)
    (sym c.requires.line.2) c.in_ok-step.ensures.made) c.in_err-turned.ensures.only_then in
    refused_so _ _ (c.in_err-turned.ensures.no_memory ∙ same_machine _ _ same c.in_ok-step.ensures.looks)
