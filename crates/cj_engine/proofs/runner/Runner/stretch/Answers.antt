use Rattle.std.proofs.Common.{◌∙◌, refl, sym, ap, subst, ⊎_elim}
use Rattle.std.specs.Prelude.{IsSome, slice_get, length}
use Rattle.cj_ir.specs.declared.language.Program.{Program}
use Rattle.cj_machine.specs.Machines.{state_of, progress_of}
use Rattle.cj_machine.specs.CodeMaps.{SoundCodes}
use Rattle.cj_machine.specs.Stepping.{IsReady}
use Rattle.cj_engine.specs.Stretches.{IsCarried}
use Rattle.cj_engine.proofs.Gliding.{room_turns}
use Rattle.cj_engine.proofs.Onwards.{quiet_stretch, stop_stretch, starved_halts, stopped_halts, refused_so}
use Rattle.cj_engine.proofs.Lines.{function_inside}
use Rattle.cj_engine.proofs.Turning.{version_there}
use Rattle.cj_engine.proofs.runner.Runner.stretch.Goals as goal

pub stretch_base-requires-clause-inside : goal.stretch_base-requires-clause-inside
unfolding state_of
stretch_base-requires-clause-inside g c =
    let P = c.args.self.now.checked.now in
    let codes = g.W.Watch.codes c.args.watch.now in
    let sound = subst (λ (Q : Program). SoundCodes Q codes) c.requires.program (g.met.W.Watch.sound c.args.watch.now c.requires.ready) in
    let s = state_of c.args.self.now.machine in
    let can = room_turns P codes c.args.count s c.program-program.ensures.well_formed sound c.requires.room c.requires.some in
    let at = sym c.position-position.ensures ∙ c.in-Base.is in
    function_inside can at

pub glide-requires-clause-found : goal.glide-requires-clause-found
unfolding state_of
glide-requires-clause-found g c =
    let P = c.args.self.now.checked.now in
    let codes = g.W.Watch.codes c.args.watch.now in
    let sound = subst (λ (Q : Program). SoundCodes Q codes) c.requires.program (g.met.W.Watch.sound c.args.watch.now c.requires.ready) in
    let s = state_of c.args.self.now.machine in
    let can = room_turns P codes c.args.count s c.program-program.ensures.well_formed sound c.requires.room c.requires.some in
    let at = sym c.position-position.ensures ∙ c.in-Version.is in
    let there = (version_there can at).1 in
    subst IsSome (sym there.found) refl

pub carry-requires-clause-fits : goal.carry-requires-clause-fits
unfolding state_of
carry-requires-clause-fits g c =
    let e = c.in_ok-stop-in-Version.ensures in
    let codes = g.W.Watch.codes c.args.watch.now in
    let stop = c.in_ok-stop-in-Version.stop in
    let args = c.glide.new.self.scratch in
    ⊎_elim
    (λ a. absurd (c.in_default.not-Goes a.0))
    (λ st. subst (λ (Q : Program). IsReady Q codes args c.in-Version.function stop.label (state_of c.glide.new.self.machine) stop.step)
    (sym (ap (λ r. r.now) e.checked)) st.ready)
    e.made

pub returns-in-Goes-clause-made : goal.returns-in-Goes-clause-made
unfolding state_of
returns-in-Goes-clause-made g c =
    let P = c.args.self.now.checked.now in
    let codes = g.W.Watch.codes c.args.watch.now in
    let sound = subst (λ (Q : Program). SoundCodes Q codes) c.requires.program (g.met.W.Watch.sound c.args.watch.now c.requires.ready) in
    let s = state_of c.args.self.now.machine in
    let e = c.in_ok-stop-in-Version.ensures in
    ⊎_elim
    (λ a. quiet_stretch P (g.W.Watch.went c.args.watch.now c.args.watch.now) codes c.glide.new.self.machine.looks a.1 c.args.count s
    (state_of c.glide.new.self.machine) (g.met.W.Watch.went_nowhere c.args.watch.now) a.2 a.3 a.4)
    (λ st. absurd (st.stops c.in-Goes.is)) e.made

pub returns-in_ok-turned-in_default-clause-made : goal.returns-in_ok-turned-in_default-clause-made
unfolding state_of
returns-in_ok-turned-in_default-clause-made g c =
    let P = c.args.self.now.checked.now in
    let codes = g.W.Watch.codes c.args.watch.now in
    let sound = subst (λ (Q : Program). SoundCodes Q codes) c.requires.program (g.met.W.Watch.sound c.args.watch.now c.requires.ready) in
    let s = state_of c.args.self.now.machine in
    let e = c.in_ok-stop-in-Version.ensures in
    let d = c.in_ok-turned-in_default.ensures in
    let later = g.W.Watch.codes c.carry.new.watch in
    let looks = c.args.self.now.machine.looks in
    let at = c.glide.new.self.machine.looks in
    let now = c.carry.new.self.machine.looks in
    let u = state_of c.glide.new.self.machine in
    let t = state_of c.carry.new.self.machine in
    let stop = c.in_ok-stop-in-Version.stop in
    let args = c.glide.new.self.scratch in
    let made = subst (λ (Q : Program). IsCarried Q args u stop.step later (slice_get now (length at)) (progress_of c.in_ok-turned-in_default.turned t))
    (ap (λ r. r.now) e.checked) d.made in
    ⊎_elim
    (λ a. absurd (c.in_default.not-Goes a.0))
    (λ st. stop_stretch P (g.W.Watch.went c.args.watch.now c.carry.new.watch) codes later args c.in-Version.function stop.label looks at now c.args.count s u
    stop.step c.in_ok-turned-in_default.turned t d.keeps.grows refl e.looks st made d.went)
    e.made

pub returns-in_err-stop-in-Version-clause-halted : goal.returns-in_err-stop-in-Version-clause-halted
unfolding state_of
returns-in_err-stop-in-Version-clause-halted g c =
    let P = c.args.self.now.checked.now in
    let codes = g.W.Watch.codes c.args.watch.now in
    let sound = subst (λ (Q : Program). SoundCodes Q codes) c.requires.program (g.met.W.Watch.sound c.args.watch.now c.requires.ready) in
    let s = state_of c.args.self.now.machine in
    let e = c.in_err-stop-in-Version.ensures in
    let trail = g.W.Watch.trail c.args.watch.now in
    refused_so _ _ (starved_halts P (g.W.Watch.went c.args.watch.now c.args.watch.now) codes c.args.self.now.machine.looks c.glide.new.self.machine.looks trail
    c.args.count s (state_of c.glide.new.self.machine) (g.met.W.Watch.went_nowhere c.args.watch.now) e.looks refl e.starved)

pub returns-in_err-turned-in_default-clause-halted : goal.returns-in_err-turned-in_default-clause-halted
unfolding state_of
returns-in_err-turned-in_default-clause-halted g c =
    let P = c.args.self.now.checked.now in
    let codes = g.W.Watch.codes c.args.watch.now in
    let sound = subst (λ (Q : Program). SoundCodes Q codes) c.requires.program (g.met.W.Watch.sound c.args.watch.now c.requires.ready) in
    let s = state_of c.args.self.now.machine in
    let e = c.in_ok-stop-in-Version.ensures in
    let d = c.in_err-turned-in_default.ensures in
    let later = g.W.Watch.codes c.carry.new.watch in
    let looks = c.args.self.now.machine.looks in
    let u = state_of c.glide.new.self.machine in
    let stop = c.in_ok-stop-in-Version.stop in
    let args = c.glide.new.self.scratch in
    let first = g.W.Watch.trail c.args.watch.now in
    let last = g.W.Watch.trail c.carry.new.watch in
    ⊎_elim
    (λ a. absurd (c.in_default.not-Goes a.0))
    (λ st. refused_so _ _
    (stopped_halts P (g.W.Watch.went c.args.watch.now c.carry.new.watch) codes later args c.in-Version.function stop.label looks first last c.args.count s
    c.glide.new.self.machine c.carry.new.self.machine stop.step d.keeps.grows e.looks st d.only_then d.told d.no_memory))
    e.made
