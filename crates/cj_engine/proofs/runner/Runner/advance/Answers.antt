use Rattle.std.proofs.Common.{◌≡◌, ◌∙◌, refl, sym, subst, arith, ℕ, ◌+◌, ◌-◌, ◌<◌, ◌≤◌, List}
use Rattle.cj_ir.specs.declared.language.Program.{Program}
use Rattle.cj_base.specs.declared.machine.Turned.{Turned}
use Rattle.cj_machine.specs.CodeMaps.{SoundCodes}
use Rattle.cj_calls.specs.declared.report.Look.{Look}
use Rattle.cj_machine.specs.Versions.{State, Codes}
use Rattle.cj_machine.specs.Marks.{Mark}
use Rattle.cj_machine.specs.Machines.{state_of}
use Rattle.cj_engine.specs.Engines.{HasRoom}
use Rattle.cj_engine.specs.Stretches.{Onward, Stretched, Halted}
use Rattle.cj_engine.proofs.Keeping.{keeps_none, keeps_then}
use Rattle.cj_engine.proofs.Paths.{turns_counted}
use Rattle.cj_engine.proofs.Counted.{onward_count, onward_answer}
use Rattle.cj_engine.proofs.Onwards.{onward_here, onward_then, onward_ended, room_then, halted_then, gains_none, gains_then, refused_so}
use Rattle.cj_engine.proofs.runner.Runner.advance.Goals as goal
use Rattle.cj_engine.proofs.runner.Runner.advance.Goals.{In_ok-end}

-- the turns with those of the stretch just made
record Joined (P : Program) (went : List Mark → Type 0) (codes : Codes) (looks : List Look) (made count : ℕ) (s : State) (answer : Turned)
    (t : State) : Type 0 where
  turns : ℕ
  further : made < turns
  few : turns ≤ count
  onward : Onward P went codes looks turns s answer t

joined : (g : _) (c : In_ok-end g) → Joined c.args.self.now.checked.now (g.W.Watch.went c.args.watch.now c.stretch.new.watch)
    (g.W.Watch.codes c.stretch.new.watch) c.stretch.new.self.machine.looks (c.loop.self.machine.turns - c.args.self.now.machine.turns) c.args.count
    (state_of c.args.self.now.machine) c.in_ok-end.field-0 (state_of c.stretch.new.self.machine)
unfolding state_of
joined g c =
    let i = c.loop.invariant in
    let within = i.within in
    let further = i.further in
    let e = c.in_ok-end.ensures in
    let P = c.args.self.now.checked.now in
    let s = state_of c.args.self.now.machine in
    let u = state_of c.loop.self.machine in
    let t = state_of c.stretch.new.self.machine in
    let made = c.loop.self.machine.turns - c.args.self.now.machine.turns in
    let left = c.args.self.now.machine.turns + c.args.count - c.loop.self.machine.turns in
    let between = c.loop.self.machine.looks in
    let after = c.stretch.new.self.machine.looks in
    let answer = c.in_ok-end.field-0 in
    let now = g.W.Watch.codes c.loop.watch in
    let later = g.W.Watch.codes c.stretch.new.watch in
    let one = g.W.Watch.went c.args.watch.now c.loop.watch in
    let other = g.W.Watch.went c.loop.watch c.stretch.new.watch in
    let went = g.W.Watch.went c.args.watch.now c.stretch.new.watch in
    let both = g.met.W.Watch.went_on c.args.watch.now c.loop.watch c.stretch.new.watch in
    let second = subst (λ r. Stretched r.now other later after left u answer t) i.checked e.made in
    let some = second.some in
    let few = second.few in
    record {
      turns = second.turns + made;
      further = omega arith;
      few = omega arith;
      onward = onward_then P one other went now later between e.gains.more after made second.turns s u answer t
          e.keeps.grows e.gains.looks_more both i.onward second.onward;
    }

pub overflow_add-last : goal.overflow_add-last
unfolding state_of
overflow_add-last g c =
    let room = c.requires.room.room in
    let limit = c.requires.room.limit in
    omega arith

pub loop-init : goal.loop-init
unfolding state_of
loop-init g c =
    let none : 0 ≡ c.args.self.now.machine.turns - c.args.self.now.machine.turns = omega arith in
    let watch = c.args.watch.now in
    let looks = c.args.self.now.machine.looks in
    let s = state_of c.args.self.now.machine in
    let here = onward_here c.args.self.now.checked.now (g.W.Watch.went watch watch) (g.W.Watch.codes watch) looks s (g.met.W.Watch.went_nowhere watch) in
    record {
      onward = onward_count none here;
      further = omega arith;
      within = omega arith;
      gains = gains_none looks (g.W.Watch.trail watch);
      checked = refl;
      keeps = keeps_none _ _ _ _ _ (g.met.W.Watch.stays_same watch) c.requires.ready;
    }

pub stretch-requires-clause-room : goal.stretch-requires-clause-room
unfolding state_of
stretch-requires-clause-room g c =
    let i = c.loop.invariant in
    let within = i.within in
    let further = i.further in
    let P = c.args.self.now.checked.now in
    let codes = g.W.Watch.codes c.args.watch.now in
    let now = g.W.Watch.codes c.loop.watch in
    let s = state_of c.args.self.now.machine in
    let u = state_of c.loop.self.machine in
    let made = c.loop.self.machine.turns - c.args.self.now.machine.turns in
    let left = c.args.self.now.machine.turns + c.args.count - c.loop.self.machine.turns in
    let one = g.W.Watch.went c.args.watch.now c.loop.watch in
    let between = c.loop.self.machine.looks in
    let kept = g.met.W.Watch.sound c.loop.watch i.keeps.ready in
    let sound = subst (λ (Q : Program). SoundCodes Q now) (i.keeps.same ∙ c.requires.program) kept in
    let formed = c.program-program.ensures.well_formed in
    subst (λ r. HasRoom r.now now left u) (sym i.checked)
    (room_then P one codes now between c.args.count made left s u formed sound i.keeps.grows c.requires.room i.onward (omega arith))

pub returns-in-Ended-clause-onward : goal.returns-in-Ended-clause-onward
unfolding state_of
returns-in-Ended-clause-onward g c =
    let j = joined g (goal.at.returns-in-Ended-clause-onward g c).In_ok-end in
    let ended = onward_answer c.in-Ended.is j.onward in
    onward_ended _ _ _ _ j.turns c.args.count _ _ _ j.few ended

pub returns-in-Ended-clause-gains : goal.returns-in-Ended-clause-gains
returns-in-Ended-clause-gains g c = gains_then _ _ _ _ _ _ c.loop.invariant.gains c.in_ok-end.ensures.gains

pub returns-in-Ended-clause-keeps : goal.returns-in-Ended-clause-keeps
returns-in-Ended-clause-keeps g c =
    keeps_then _ _ _ _ _ _ _ (g.met.W.Watch.stays_on _ _ _) c.loop.invariant.keeps c.in_ok-end.ensures.keeps

pub returns-in_err-end-clause-keeps : goal.returns-in_err-end-clause-keeps
returns-in_err-end-clause-keeps g c =
    keeps_then _ _ _ _ _ _ _ (g.met.W.Watch.stays_on _ _ _) c.loop.invariant.keeps c.in_err-end.ensures.keeps

pub returns-in_err-end-clause-halted : goal.returns-in_err-end-clause-halted
unfolding state_of
returns-in_err-end-clause-halted g c =
    let i = c.loop.invariant in
    let within = i.within in
    let further = i.further in
    let e = c.in_err-end.ensures in
    let P = c.args.self.now.checked.now in
    let s = state_of c.args.self.now.machine in
    let u = state_of c.loop.self.machine in
    let t = state_of c.stretch.new.self.machine in
    let made = c.loop.self.machine.turns - c.args.self.now.machine.turns in
    let left = c.args.self.now.machine.turns + c.args.count - c.loop.self.machine.turns in
    let old = c.args.self.now.machine.looks in
    let between = c.loop.self.machine.looks in
    let after = c.stretch.new.self.machine.looks in
    let now = g.W.Watch.codes c.loop.watch in
    let later = g.W.Watch.codes c.stretch.new.watch in
    let one = g.W.Watch.went c.args.watch.now c.loop.watch in
    let other = g.W.Watch.went c.loop.watch c.stretch.new.watch in
    let went = g.W.Watch.went c.args.watch.now c.stretch.new.watch in
    let both = g.met.W.Watch.went_on c.args.watch.now c.loop.watch c.stretch.new.watch in
    let first = g.W.Watch.trail c.args.watch.now in
    let mid = g.W.Watch.trail c.loop.watch in
    let end = g.W.Watch.trail c.stretch.new.watch in
    let second = subst (λ r. Halted r.now other later between after mid end left u t) i.checked e.halted in
    refused_so _ _ (halted_then P one other went now later old between after first mid end made left c.args.count s u t
    e.keeps.grows both i.gains i.onward second (omega arith))

pub loop-preserved : goal.loop-preserved
unfolding state_of
loop-preserved g c =
    let i = c.loop.invariant in
    let within = i.within in
    let further = i.further in
    let e = c.in_ok-end.ensures in
    let j = joined g (goal.at.loop-preserved g c).In_ok-end in
    let more = j.further in
    let few = j.few in
    let running = onward_answer c.in_default.is j.onward in
    let old = c.args.self.now.machine in
    let new = c.stretch.new.self.machine in
    let later = g.W.Watch.codes c.stretch.new.watch in
    let counted : new.turns ≡ j.turns + old.turns = turns_counted _ later new.looks (state_of old) (state_of new) j.turns running.made in
    let next : j.turns ≡ new.turns - old.turns = omega arith in
    record {
      onward = onward_count next running;
      further = omega arith;
      within = omega arith;
      gains = gains_then _ _ _ _ _ _ i.gains e.gains;
      checked = e.checked ∙ i.checked;
      keeps = keeps_then _ _ _ _ _ _ _ (g.met.W.Watch.stays_on _ _ _) i.keeps e.keeps;
    }

pub returns-then-left-eq0-clause-onward : goal.returns-then-left-eq0-clause-onward
unfolding state_of
returns-then-left-eq0-clause-onward g c =
    let i = c.loop.invariant in
    let within = i.within in
    let further = i.further in
    let none = c.if-left-eq0.true in
    let all : c.loop.self.machine.turns - c.args.self.now.machine.turns ≡ c.args.count = omega arith in
    onward_count all i.onward

pub returns-after-loop-clause-onward : goal.returns-after-loop-clause-onward
unfolding state_of
returns-after-loop-clause-onward g c =
    let i = c.loop.invariant in
    let within = i.within in
    let further = i.further in
    let end = c.loop.auto.counter-end in
    let over = c.loop-test.false in
    let all : c.loop.self.machine.turns - c.args.self.now.machine.turns ≡ c.args.count = omega arith in
    onward_count all i.onward
