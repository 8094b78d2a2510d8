use Rattle.std.proofs.Common.{◌∙◌, refl, sym, ap, subst}
use Rattle.cj_ir.specs.declared.language.Program.{Program}
use Rattle.cj_machine.specs.Machines.{state_of}
use Rattle.cj_machine.specs.CodeMaps.{SoundCodes}
use Rattle.cj_engine.specs.Engines.{EngineView}
use Rattle.cj_engine.proofs.Onwards.{path_goes}
use Rattle.cj_engine.proofs.engine.Engine.advance.Goals as goal

pub returns-clause-goes : goal.returns-clause-goes
unfolding state_of
returns-clause-goes g c =
    let e = c.in_ok-turned.ensures in
    let codes = g.W.Watch.codes c.args.watch.now in
    let later = g.W.Watch.codes c.advance.new.watch in
    let own = c.requires.program ∙ ap (λ (v : EngineView). v.program) (sym c.self.view_is) in
    let kept = g.met.W.Watch.sound c.advance.new.watch e.keeps.ready in
    let sound = subst (λ (Q : Program). SoundCodes Q later) (e.keeps.same ∙ own) kept in
    let formed = c.program-program.ensures.well_formed in
    rw (← c.self.view_is) (λ call is room.
    path_goes _ codes later _ e.gains.more _ c.args.count call _ _ _ formed sound e.keeps.grows e.gains.looks_more refl is room e.onward.made)
