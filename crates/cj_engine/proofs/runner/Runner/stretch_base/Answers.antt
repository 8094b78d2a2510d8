use Rattle.std.proofs.Common.{◌≡◌, ◌∙◌, refl, sym, subst, arith, ◌+◌, ◌≤◌, length}
use Rattle.std.specs.Prelude.{slice_get, Some}
use Rattle.cj_ir.specs.Program.{line_at}
use Rattle.cj_ir.specs.declared.language.FunId.{FunId}
use Rattle.cj_ir.specs.declared.language.Label.{Label}
use Rattle.cj_ir.specs.declared.language.Program.{Program}
use Rattle.cj_machine.specs.declared.machine.Machine.{Machine}
use Rattle.cj_machine.specs.CodeMaps.{SoundCodes}
use Rattle.cj_machine.specs.Machines.{state_of, progress_of}
use Rattle.cj_machine.specs.Marks.{turn_marks}
use Rattle.cj_machine.specs.Stepping.{TurnTakesMemory}
use Rattle.cj_engine.specs.Watching.{TellsAtMost}
use Rattle.cj_machine.specs.Versions.{State, Codes, version_turn}
use Rattle.cj_engine.specs.Engines.{CanTurn}
use Rattle.cj_engine.specs.Stretches.{Onward, Halted}
use Rattle.cj_engine.proofs.Gliding.{some_turn}
use Rattle.cj_engine.proofs.Keeping.{keeps_none, keeps_then}
use Rattle.cj_engine.proofs.Lines.{line_here, same_line}
use Rattle.cj_activations.specs.Changes.{position_of}
use Rattle.cj_activations.specs.declared.windows.Position.TheVariants.{Base}
use Rattle.cj_engine.proofs.Counted.{onward_count, onward_answer}
use Rattle.cj_engine.proofs.Onwards.{onward_here, onward_turn, onward_then, onward_can, halted_here, halted_then, gains_none, gains_then, refused_so}
use Rattle.cj_engine.proofs.runner.Runner.stretch_base.Goals as goal
use Rattle.cj_engine.proofs.runner.Runner.stretch_base.Goals.{In-Some, In_ok-end}

-- a turn can be made at a line of the base program
record BaseTurn (P : Program) (codes : Codes) (f : FunId) (label : Label) (s : State) : Type 0 where
  can : CanTurn P codes s
  at : position_of s.stack.top ≡ Base f label

can_turn : (g : _) (c : In-Some g) → BaseTurn c.args.self.now.checked.now (g.W.Watch.codes c.loop.watch)
    c.args.function c.in-Some.label (state_of c.loop.self.machine)
unfolding state_of
can_turn g c =
    let i = c.loop.invariant in
    let P = c.args.self.now.checked.now in
    let test = c.loop-test.true in
    let codes = g.W.Watch.codes c.args.watch.now in
    let now = g.W.Watch.codes c.loop.watch in
    let kept = g.met.W.Watch.sound c.loop.watch i.keeps.ready in
    let sound = subst (λ (Q : Program). SoundCodes Q now) (i.keeps.same ∙ c.requires.program) kept in
    let formed = c.program-program.ensures.well_formed in
    let s = state_of c.args.self.now.machine in
    let u = state_of c.loop.self.machine in
    let one = g.W.Watch.went c.args.watch.now c.loop.watch in
    let looks = c.loop.self.machine.looks in
    record {
      can = onward_can P one codes now looks c.args.count c.loop.counter s u formed sound i.keeps.grows c.requires.room i.onward (omega arith);
      at = sym c.position-position.ensures ∙ c.base_label_in.ensures.is c.in-Some.label c.in-Some.is;
    }

-- the turns with the one just made
turned : (g : _) (c : In_ok-end g) → Onward c.args.self.now.checked.now (g.W.Watch.went c.args.watch.now c.turn_base.new.watch)
    (g.W.Watch.codes c.turn_base.new.watch) c.turn_base.new.self.machine.looks (1 + c.loop.counter)
    (state_of c.args.self.now.machine) c.in_ok-end.field-0 (state_of c.turn_base.new.self.machine)
unfolding state_of
turned g c =
    let i = c.loop.invariant in
    let e = c.in_ok-end.ensures in
    let P = c.args.self.now.checked.now in
    let s = state_of c.args.self.now.machine in
    let u = state_of c.loop.self.machine in
    let t = state_of c.turn_base.new.self.machine in
    let between = c.loop.self.machine.looks in
    let after = c.turn_base.new.self.machine.looks in
    let answer = c.in_ok-end.field-0 in
    let now = g.W.Watch.codes c.loop.watch in
    let later = g.W.Watch.codes c.turn_base.new.watch in
    let one = g.W.Watch.went c.args.watch.now c.loop.watch in
    let other = g.W.Watch.went c.loop.watch c.turn_base.new.watch in
    let went = g.W.Watch.went c.args.watch.now c.turn_base.new.watch in
    let both = g.met.W.Watch.went_on c.args.watch.now c.loop.watch c.turn_base.new.watch in
    let turn = subst (λ r. version_turn r.now later (slice_get after (length between)) u ≡ progress_of answer t) i.checked e.made in
    let told = subst (λ r. other (turn_marks r.now later u)) i.checked e.went in
    let last = onward_turn P other later after u answer t turn told in
    onward_then P one other went now later between e.gains.more after c.loop.counter 1 s u answer t
    e.keeps.grows e.gains.looks_more both i.onward last

pub loop-init : goal.loop-init
unfolding state_of
loop-init g c =
    let watch = c.args.watch.now in
    let looks = c.args.self.now.machine.looks in
    let nowhere = g.met.W.Watch.went_nowhere watch in
    record {
      onward = onward_here _ (g.W.Watch.went watch watch) (g.W.Watch.codes watch) looks (state_of c.args.self.now.machine) nowhere;
      place = λ zero. c.requires.place;
      gains = gains_none looks (g.W.Watch.trail watch);
      checked = refl;
      keeps = keeps_none _ _ _ _ _ (g.met.W.Watch.stays_same watch) c.requires.ready;
    }

pub returns-in_default-clause-made : goal.returns-in_default-clause-made
returns-in_default-clause-made g c =
    let i = c.loop.invariant in
    let elsewhere = c.in_default.not-Some in
    let label = c.base_label_in.ensures.there in
    let some : 1 ≤ c.loop.counter = some_turn c.loop.counter (λ first.
    elsewhere (i.place first).0 (label (i.place first).0 (c.position-position.ensures ∙ (i.place first).1))) in
    record { turns = c.loop.counter; some = some; few = (let test = c.loop-test.true in omega arith); onward = i.onward }

pub line_in-instr-requires : goal.line_in-instr-requires
unfolding state_of
line_in-instr-requires g c =
    let b = can_turn g (goal.at.line_in-instr-requires g c).In-Some in
    line_here b.can b.at c.function-body.result.now c.function-body.ensures.found

pub turn_base-requires-clause-can : goal.turn_base-requires-clause-can
unfolding state_of
turn_base-requires-clause-can g c =
    let b = can_turn g (goal.at.turn_base-requires-clause-can g c).In-Some in
    subst (λ r. CanTurn r.now (g.W.Watch.codes c.loop.watch) (state_of c.loop.self.machine)) (sym c.loop.invariant.checked) b.can

pub turn_base-requires-clause-line : goal.turn_base-requires-clause-line
unfolding state_of
turn_base-requires-clause-line g c =
    let b = can_turn g (goal.at.turn_base-requires-clause-line g c).In-Some in
    let body = c.function-body.result.now in
    let found = c.function-body.ensures.found in
    let line = line_here b.can b.at body found in
    let there : line_at c.args.self.now.checked.now c.args.function c.in-Some.label ≡ Some line.0 =
    same_line b.can b.at body found ∙ line.1 in
    let same = sym c.loop.invariant.checked in
    (line.0, subst (λ r. line_at r.now c.args.function c.in-Some.label ≡ Some line.0) same there, c.line_in-instr.ensures line.0 line.1)

pub returns-in-Ended-clause-made : goal.returns-in-Ended-clause-made
unfolding state_of
returns-in-Ended-clause-made g c =
    let test = c.loop-test.true in
    let whole = turned g (goal.at.returns-in-Ended-clause-made g c).In_ok-end in
    record {
      turns = 1 + c.loop.counter;
      some = omega arith;
      few = omega arith;
      onward = onward_answer c.in-Ended.is whole;
    }

pub returns-in-Ended-clause-gains : goal.returns-in-Ended-clause-gains
returns-in-Ended-clause-gains g c = gains_then _ _ _ _ _ _ c.loop.invariant.gains c.in_ok-end.ensures.gains

pub returns-in-Ended-clause-keeps : goal.returns-in-Ended-clause-keeps
returns-in-Ended-clause-keeps g c =
    keeps_then _ _ _ _ _ _ _ (g.met.W.Watch.stays_on _ _ _) c.loop.invariant.keeps c.in_ok-end.ensures.keeps

pub returns-in_err-end-clause-keeps : goal.returns-in_err-end-clause-keeps
returns-in_err-end-clause-keeps g c =
    keeps_then _ _ _ _ _ _ _ (g.met.W.Watch.stays_on _ _ _) c.loop.invariant.keeps c.in_err-end.ensures.keeps

pub returns-in_err-end-clause-halted : goal.returns-in_err-end-clause-halted
unfolding state_of
returns-in_err-end-clause-halted g c =
    let i = c.loop.invariant in
    let e = c.in_err-end.ensures in
    let test = c.loop-test.true in
    let P = c.args.self.now.checked.now in
    let s = state_of c.args.self.now.machine in
    let u = state_of c.loop.self.machine in
    let old = c.args.self.now.machine.looks in
    let between = c.loop.self.machine.looks in
    let after = c.turn_base.new.self.machine.looks in
    let now = g.W.Watch.codes c.loop.watch in
    let later = g.W.Watch.codes c.turn_base.new.watch in
    let one = g.W.Watch.went c.args.watch.now c.loop.watch in
    let other = g.W.Watch.went c.loop.watch c.turn_base.new.watch in
    let went = g.W.Watch.went c.args.watch.now c.turn_base.new.watch in
    let both = g.met.W.Watch.went_on c.args.watch.now c.loop.watch c.turn_base.new.watch in
    let first = g.W.Watch.trail c.args.watch.now in
    let mid = g.W.Watch.trail c.loop.watch in
    let end = g.W.Watch.trail c.turn_base.new.watch in
    let takes = subst (λ r. TurnTakesMemory r.now later u) i.checked e.only_then in
    let told = subst (λ r. TellsAtMost other mid end (turn_marks r.now later u)) i.checked e.told in
    let here = halted_here P other later between mid end 1 u (omega arith) refl takes told in
    let second = subst (λ (m : Machine). Halted P other later between m.looks mid end 1 u (state_of m)) (sym e.no_memory) here in
    refused_so _ _ (halted_then P one other went now later old between after first mid end c.loop.counter 1 c.args.count
    s u (state_of c.turn_base.new.self.machine) e.keeps.grows both i.gains i.onward second (omega arith))

pub loop-preserved : goal.loop-preserved
unfolding state_of
loop-preserved g c =
    let i = c.loop.invariant in
    let e = c.in_ok-end.ensures in
    let whole = turned g (goal.at.loop-preserved g c).In_ok-end in
    let counter = c.loop.counter in
    let next : 1 + counter ≡ counter + 1 = omega arith in
    record {
      onward = onward_count next (onward_answer c.in_default-2.is whole);
      place = λ zero. absurd (omega arith);
      gains = gains_then _ _ _ _ _ _ i.gains e.gains;
      checked = e.checked ∙ i.checked;
      keeps = keeps_then _ _ _ _ _ _ _ (g.met.W.Watch.stays_on _ _ _) i.keeps e.keeps;
    }

pub returns-clause-made : goal.returns-clause-made
returns-clause-made g c =
    let i = c.loop.invariant in
    let test = c.loop-test.false in
    let some = c.requires.some in
    let end = c.loop.auto.counter-end in
    record { turns = c.loop.counter; some = omega arith; few = omega arith; onward = i.onward }
