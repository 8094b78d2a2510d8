use Rattle.std.proofs.Common.{◌≡◌, ◌∙◌, ◌+◌, ◌-◌, ◌≤◌, min, refl, sym, ap, subst, arith, Option}
use Rattle.cj_ir.specs.declared.language.Program.{Program}
use Rattle.cj_base.specs.declared.machine.End.{End}
use Rattle.cj_base.specs.Run.{begun}
use Rattle.cj_engine.specs.Engines.{HasRoom}
use Rattle.cj_machine.specs.CallRuns.{IsRun}
use Rattle.cj_world.specs.Worlds.{codes_in}
use Rattle.cj_world.specs.Caches.{made_in}
use Rattle.cj_world.specs.Running.{run_of, progress_by, IsAt}
use Rattle.cj_world.proofs.Steps.{turn_at, told_on, same_codes}
use Rattle.cj_world.proofs.Going.{gone, gone_through, gone_used}
use Rattle.cj_world.proofs.runs.Run.advance.Goals as goal

pub advance-requires-clause-room : goal.advance-requires-clause-room
unfolding begun
advance-requires-clause-room c =
    let r = c.args.self.now in
    let P = c.args.cache.now.checked.now in
    let codes = codes_in (made_in c.args.cache.now) in
    let s = r.engine.state in
    let is = subst (λ (o : Option End). IsAt P codes r.engine.looks (begun r.call.now) o s) c.requires.goes_on c.requires.fits.at in
    let few : c.turns_left-turns.result ≡ min c.args.count (r.call.now.limit - s.turns) = rw c.turns.ensures at c.turns_left-turns.ensures in
    let within : s.turns ≤ r.call.now.limit = is.within in
    let room : HasRoom P codes c.turns_left-turns.result s = record {
      call = begun r.call.now;
      takes = is.takes;
      stands = is.stands;
      room = omega arith;
      limit = is.limit;
    } in
    subst (λ (Q : Program). HasRoom Q codes c.turns_left-turns.result s) (sym c.requires.fits.program) room

pub returns-clause-made : goal.returns-clause-made
unfolding run_of progress_by begun
returns-clause-made c =
    let e = c.in_ok-turned.ensures in
    let r = c.args.self.now in
    let old = c.args.cache.now in
    let P = old.checked.now in
    let codes = codes_in (made_in old) in
    let s = r.engine.state in
    let is = subst (λ (o : Option End). IsAt P codes r.engine.looks (begun r.call.now) o s) c.requires.goes_on c.requires.fits.at in
    let few : c.turns_left-turns.result ≡ min c.args.count (r.call.now.limit - s.turns) = rw c.turns.ensures at c.turns_left-turns.ensures in
    gone P r.engine.program codes (codes_in (made_in c.advance.new.watch)) c.requires.fits.program (same_codes old c.advance.new.watch e.keeps.stays)
    s c.advance.new.self.state c.advance.new.self.looks c.args.count c.turns_left-turns.result r.call.now.limit few is.within
    old.current (run_of r) old.trail c.advance.new.watch.trail c.in_ok-turned.turned c.end_in-self.result refl is.used
    (ap (λ (o : Option End). progress_by o s) c.requires.goes_on) e.gains e.onward.told.trail e.onward.made c.end_in-self.ensures

pub returns-clause-through : goal.returns-clause-through
unfolding begun
returns-clause-through c = λ all none.
    let e = c.in_ok-turned.ensures in
    let r = c.args.self.now in
    let old = c.args.cache.now in
    let P = old.checked.now in
    let codes = codes_in (made_in old) in
    let s = r.engine.state in
    let is = subst (λ (o : Option End). IsAt P codes r.engine.looks (begun r.call.now) o s) c.requires.goes_on c.requires.fits.at in
    let few : c.turns_left-turns.result ≡ min c.args.count (r.call.now.limit - s.turns) = rw c.turns.ensures at c.turns_left-turns.ensures in
    gone_through P r.engine.program codes (codes_in (made_in c.advance.new.watch)) c.requires.fits.program (same_codes old c.advance.new.watch e.keeps.stays)
    s c.advance.new.self.state c.advance.new.self.looks c.args.count c.turns_left-turns.result r.call.now.limit few is.within
    c.in_ok-turned.turned c.end_in-self.result e.onward.made c.end_in-self.ensures all none

pub returns-clause-fits : goal.returns-clause-fits
unfolding run_of progress_by begun
returns-clause-fits c =
    let e = c.in_ok-turned.ensures in
    let r = c.args.self.now in
    let old = c.args.cache.now in
    let P = old.checked.now in
    let codes = codes_in (made_in old) in
    let s = r.engine.state in
    let is = subst (λ (o : Option End). IsAt P codes r.engine.looks (begun r.call.now) o s) c.requires.goes_on c.requires.fits.at in
    let is' = subst (λ (Q : Program). IsRun Q codes r.engine.looks (begun r.call.now) s) (sym c.requires.fits.program) is in
    let few : c.turns_left-turns.result ≡ min c.args.count (r.call.now.limit - s.turns) = rw c.turns.ensures at c.turns_left-turns.ensures in
    let within : s.turns ≤ r.call.now.limit = is.within in
    let room : s.turns + c.turns_left-turns.result ≤ r.call.now.limit = omega arith in
    let goes = e.goes (begun r.call.now) is' room in
    record {
      program = e.program ∙ c.requires.fits.program;
      takes = c.requires.fits.takes;
      running = λ none. e.running ∙ told_on c.in_ok-turned.turned c.end_in-self.result c.end_in-self.ensures none;
      used = gone_used P r.engine.program codes (codes_in (made_in c.advance.new.watch)) c.requires.fits.program
          (same_codes old c.advance.new.watch e.keeps.stays)
          s c.advance.new.self.state c.advance.new.self.looks c.args.count c.turns_left-turns.result r.call.now.limit few within
          old.current (run_of r) old.trail c.advance.new.watch.trail c.in_ok-turned.turned refl is.used
          (ap (λ (o : Option End). progress_by o s) c.requires.goes_on) e.gains e.onward.told.trail e.onward.made;
      at = turn_at P r.engine.program codes (codes_in (made_in c.advance.new.watch)) c.requires.fits.program (same_codes old c.advance.new.watch e.keeps.stays)
          c.advance.new.self.looks (begun r.call.now) c.advance.new.self.state c.in_ok-turned.turned c.end_in-self.result goes c.end_in-self.ensures;
    }
