use Rattle.std.proofs.Common.{◌≡◌, ℕ, ◌∙◌, refl, sym, ap, subst, arith, inl, inr, suc, ◌+◌, ◌-◌, Some, add-one, length}
use Rattle.cj_ir.specs.declared.language.Label.{Label}
use Rattle.cj_ir.specs.declared.language.Program.{Program}
use Rattle.cj_activations.specs.declared.windows.Position.TheVariants.{Version}
use Rattle.cj_draft.specs.declared.code.Code.{Code}
use Rattle.cj_machine.specs.Machines.{state_of}
use Rattle.cj_machine.specs.CodeMaps.{SoundCodes}
use Rattle.cj_engine.proofs.Gliding.{room_turns, room_after, placed_here, stands_here, goes_quietly, stops_here}
use Rattle.cj_engine.proofs.Turning.{version_few, version_back, version_fine, version_takes, version_stays}
use Rattle.cj_engine.proofs.Onwards.{refused_so}
use Rattle.cj_machine.specs.declared.machine.Machine.{Machine}
use Rattle.cj_engine.specs.Stretches.{Starves}
use Rattle.cj_machine.specs.Versions.{State, Codes}
use Rattle.cj_engine.specs.Engines.{CanTurn}
use Rattle.cj_ir.specs.declared.language.FunId.{FunId}
use Rattle.cj_activations.specs.Changes.{position_of}
use Rattle.cj_engine.proofs.runner.Runner.glide.Goals as goal
use Rattle.cj_engine.proofs.runner.Runner.glide.Goals.{After-label_of-label}

-- a turn can be made at the label of a version
record VersionTurn (P : Program) (codes : Codes) (f : FunId) (offset : ℕ) (code : Code) (label : Label) (s : State) : Type 0 where
  sound : SoundCodes P codes
  can : CanTurn P codes s
  at : position_of s.stack.top ≡ Version f offset label
  found : codes f offset ≡ Some code

can_turn : (g : _) (c : After-label_of-label g) → VersionTurn c.args.self.now.checked.now (g.W.Watch.codes c.args.watch.now)
    c.args.function c.args.offset c.code-code.result.now c.label_of-label.result (state_of c.loop.self.machine)
unfolding state_of
can_turn g c =
    let P = c.args.self.now.checked.now in
    let f = c.args.function in
    let offset = c.args.offset in
    let codes = g.W.Watch.codes c.args.watch.now in
    let kept = g.met.W.Watch.sound c.args.watch.now c.requires.ready in
    let sound = subst (λ (Q : Program). SoundCodes Q codes) c.requires.program kept in
    let formed = c.program-program.ensures.well_formed in
    let i = c.loop.invariant in
    let place = i.place in
    let label = c.label_of-label.ensures f offset place.0 (c.position.ensures ∙ place.1) in
    record {
      sound = sound;
      can = room_turns P codes _ (state_of c.loop.self.machine) formed sound i.room (let t = c.loop-test.true in omega arith);
      at = place.1 ∙ ap (λ (l : Label). Version f offset l) (sym label);
      found = c.version.ensures.code ∙ ap (λ (x : Code). Some x) (sym c.code-code.ensures.same);
    }

pub instr_in-instr-requires : goal.instr_in-instr-requires
unfolding state_of
instr_in-instr-requires g c =
    let t = can_turn g (goal.at.instr_in-instr-requires g c).After-label_of-label in
    placed_here t.can t.at c.code-code.result.now t.found

pub step_version-requires-clause-few : goal.step_version-requires-clause-few
unfolding state_of
step_version-requires-clause-few g c =
    let t = can_turn g (goal.at.step_version-requires-clause-few g c).After-label_of-label in
    let there = stands_here t.can t.at c.code-code.result.now c.instr_in-instr.result.now t.found c.instr_in-instr.ensures in
    version_few t.can t.at there

pub step_version-requires-clause-back : goal.step_version-requires-clause-back
unfolding state_of
step_version-requires-clause-back g c =
    let t = can_turn g (goal.at.step_version-requires-clause-back g c).After-label_of-label in
    let there = stands_here t.can t.at c.code-code.result.now c.instr_in-instr.result.now t.found c.instr_in-instr.ensures in
    version_back t.can t.at there

pub step_version-requires-clause-fine : goal.step_version-requires-clause-fine
unfolding state_of
step_version-requires-clause-fine g c =
    let P = c.args.self.now.checked.now in
    let t = can_turn g (goal.at.step_version-requires-clause-fine g c).After-label_of-label in
    let there = stands_here t.can t.at c.code-code.result.now c.instr_in-instr.result.now t.found c.instr_in-instr.ensures in
    let fine = version_fine t.can t.at there in (P, fine.0, fine.1)

pub returns-in_default : goal.returns-in_default
unfolding state_of
returns-in_default g c =
    let t = can_turn g (goal.at.returns-in_default g c).After-label_of-label in
    let there = stands_here t.can t.at c.code-code.result.now c.instr_in-instr.result.now t.found c.instr_in-instr.ensures in
    record {
      made = inr (stops_here t.can t.at there c.loop.counter c.args.count (let test = c.loop-test.true in omega arith)
          c.in_default.not-Goes c.in_ok-step.ensures.made c.loop.invariant.quiet);
      starved = tt;
      looks = c.in_ok-step.ensures.looks ∙ c.loop.invariant.looks;
      checked = c.loop.invariant.checked;
    }

pub loop-preserved : goal.loop-preserved
unfolding state_of
loop-preserved g c =
    let P = c.args.self.now.checked.now in
    let codes = g.W.Watch.codes c.args.watch.now in
    let t = can_turn g (goal.at.loop-preserved g c).After-label_of-label in
    let there = stands_here t.can t.at c.code-code.result.now c.instr_in-instr.result.now t.found c.instr_in-instr.ensures in
    let quiet = goes_quietly t.can t.at there c.in_ok-step.ensures.made c.in-Goes.is (ap length c.in_ok-step.ensures.looks) in
    let counter = c.loop.counter in
    let count = c.args.count in
    let fewer : count - (counter + 1) + 1 ≡ count - counter = (let t = c.loop-test.true in omega arith) in
    let one : counter + 1 ≡ suc counter = add-one counter in
    record {
      quiet = rw one (state_of c.loop.self.machine, c.loop.invariant.quiet, quiet);
      place = version_stays t.can t.at there c.in_ok-step.ensures.made c.in-Goes.is;
      room = room_after P codes (count - counter) (count - (counter + 1)) (state_of c.loop.self.machine) (state_of c.step_version.new.self)
          c.program-program.ensures.well_formed t.sound c.loop.invariant.room fewer quiet;
      looks = c.in_ok-step.ensures.looks ∙ c.loop.invariant.looks;
      checked = c.loop.invariant.checked;
    }

pub returns-clause-made : goal.returns-clause-made
returns-clause-made g c =
    let test = c.loop-test.false in
    let some = c.requires.some in
    let end = c.loop.auto.counter-end in
    inl (refl, c.loop.counter, omega arith, omega arith, c.loop.invariant.quiet)

pub returns-in_err-step-clause-starved : goal.returns-in_err-step-clause-starved
unfolding state_of
returns-in_err-step-clause-starved g c =
    let P = c.args.self.now.checked.now in
    let codes = g.W.Watch.codes c.args.watch.now in
    let t = can_turn g (goal.at.returns-in_err-step-clause-starved g c).After-label_of-label in
    let there = stands_here t.can t.at c.code-code.result.now c.instr_in-instr.result.now t.found c.instr_in-instr.ensures in
    let u = state_of c.loop.self.machine in
    let test = c.loop-test.true in
    let here : Starves P codes c.args.count (state_of c.args.self.now.machine) u =
    record {
      turns = c.loop.counter;
      fewer = omega arith;
      quiet = c.loop.invariant.quiet;
      takes = version_takes t.can t.at there c.in_err-step.ensures.only_then;
    } in
    refused_so _ _ (subst (λ (m : Machine). Starves P codes c.args.count (state_of c.args.self.now.machine) (state_of m))
    (sym c.in_err-step.ensures.no_memory) here)

pub returns-in_err-step-clause-looks : goal.returns-in_err-step-clause-looks
returns-in_err-step-clause-looks g c = ap (λ (m : Machine). m.looks) c.in_err-step.ensures.no_memory ∙ c.loop.invariant.looks
