use Rattle.std.proofs.Common.{◌∙◌, refl, sym, ap, subst, arith, false}
use Rattle.cj_ir.specs.declared.language.Program.{Program}
use Rattle.cj_machine.specs.Machines.{state_of}
use Rattle.cj_machine.specs.Versions.{Progress}
use Rattle.cj_machine.specs.CodeMaps.{SoundCodes}
use Rattle.cj_machine.specs.Stands.{Holds}
use Rattle.cj_engine.specs.Engines.{EngineView}
use Rattle.cj_machine.proofs.Turns.{later_turn_holds}
use Rattle.cj_machine.proofs.Going.{turn_counted}
use Rattle.cj_engine.proofs.Turning.{refused_then}
use Rattle.cj_engine.proofs.Onwards.{OneTurn, HaltedAtOnce, onward_one, path_goes, halted_at_once, same_view, refused_so}
use Rattle.cj_engine.proofs.engine.Engine.turn.Goals as goal

-- the turn that was made, and what was told of it
one : (g : _) (c : goal.After-self-2-1 g) → OneTurn c.self.inside.runner.checked.now (g.W.Watch.went c.args.watch.now c.advance.new.watch)
    (g.W.Watch.codes c.advance.new.watch) c.advance.new.self.machine.looks (state_of c.self.inside.runner.machine)
    c.in_ok-turned.turned (state_of c.advance.new.self.machine)
one g c = onward_one _ _ _ _ _ _ _ c.in_ok-turned.ensures.onward

-- the codes after the turn are sound for the program
sound_after : (g : _) (c : goal.After-self-2-1 g) → SoundCodes c.self.inside.runner.checked.now (g.W.Watch.codes c.advance.new.watch)
sound_after g c =
    let e = c.in_ok-turned.ensures in
    let own = c.requires.program ∙ ap (λ (v : EngineView). v.program) (sym c.self.view_is) in
    subst (λ (Q : Program). SoundCodes Q (g.W.Watch.codes c.advance.new.watch)) (e.keeps.same ∙ own)
    (g.met.W.Watch.sound c.advance.new.watch e.keeps.ready)

-- the turn that found no memory
halted : (g : _) (c : goal.After-from_residual g) → HaltedAtOnce c.self.inside.runner.checked.now (g.W.Watch.went c.args.watch.now c.advance.new.watch)
    (g.W.Watch.codes c.advance.new.watch) c.self.inside.runner.machine.looks c.advance.new.self.machine.looks
    (g.W.Watch.trail c.args.watch.now) (g.W.Watch.trail c.advance.new.watch)
    (state_of c.self.inside.runner.machine) (state_of c.advance.new.self.machine)
unfolding state_of
halted g c = halted_at_once _ _ _ _ _ _ _ _ _ refl c.in_err-turned.ensures.halted

pub returns-clause-made : goal.returns-clause-made
unfolding state_of
returns-clause-made g c = rw (← c.self.view_is) (one g c).made

pub returns-clause-went : goal.returns-clause-went
unfolding state_of
returns-clause-went g c = rw (← c.self.view_is) (one g c).told

pub returns-clause-holds : goal.returns-clause-holds
unfolding state_of
returns-clause-holds g c =
    let P = c.self.inside.runner.checked.now in
    let codes = g.W.Watch.codes c.args.watch.now in
    let later = g.W.Watch.codes c.advance.new.watch in
    let s = state_of c.self.inside.runner.machine in
    let e = c.in_ok-turned.ensures in
    rw (← c.self.view_is) (λ call stands. subst (λ (o : Progress). Holds P later call o) (one g c).made
    (later_turn_holds P codes later call _ s c.program-program.ensures.well_formed e.keeps.grows (sound_after g c) stands))

pub returns-clause-goes : goal.returns-clause-goes
unfolding state_of
returns-clause-goes g c =
    let P = c.self.inside.runner.checked.now in
    let codes = g.W.Watch.codes c.args.watch.now in
    let later = g.W.Watch.codes c.advance.new.watch in
    let old = c.self.inside.runner.machine in
    let new = c.advance.new.self.machine in
    let e = c.in_ok-turned.ensures in
    rw (← c.self.view_is) (λ call is before.
    path_goes P codes later old.looks e.gains.more new.looks 1 call (state_of old) c.in_ok-turned.turned (state_of new)
    c.program-program.ensures.well_formed (sound_after g c) e.keeps.grows e.gains.looks_more refl is (omega arith) e.onward.made)

pub returns-clause-one_more : goal.returns-clause-one_more
unfolding state_of
returns-clause-one_more g c = rw (← c.self.view_is) (turn_counted _ _ _ _ _ _ (one g c).made)

pub returns-in_err-turned-clause-only_then : goal.returns-in_err-turned-clause-only_then
unfolding state_of
returns-in_err-turned-clause-only_then g c = rw (← c.self.view_is) (refused_then _ _ (halted g c).takes)

pub returns-in_err-turned-clause-told : goal.returns-in_err-turned-clause-told
unfolding state_of
returns-in_err-turned-clause-told g c = rw (← c.self.view_is) (refused_so _ _ (halted g c).told)

pub returns-in_err-turned-clause-no_memory : goal.returns-in_err-turned-clause-no_memory
unfolding state_of
returns-in_err-turned-clause-no_memory g c =
    let old = c.self.inside.runner in
    let new = c.advance.new.self in
    let h = halted g c in
    rw (← c.self.view_is) (refused_so _ _
    (same_view old.checked.now new.checked.now (state_of old.machine) (state_of new.machine) old.machine.looks new.machine.looks false
    (ap (λ r. r.now) c.in_err-turned.ensures.checked) h.same h.same_looks))
