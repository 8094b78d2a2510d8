use Rattle.std.proofs.Common.{◌≡◌, subst}
use Rattle.std.specs.Prelude.{slice_get}
use Rattle.cj_base.specs.Run.{begun}
use Rattle.cj_machine.specs.Versions.{Codes, Continues}
use Rattle.cj_machine.specs.VersionRuns.{version_start}
use Rattle.cj_machine.specs.Marks.{start_marks}
use Rattle.cj_machine.specs.CallRuns.{IsRun}
use Rattle.cj_world.specs.Worlds.{looks_of}
use Rattle.cj_world.specs.Running.{run_of, progress_by}
use Rattle.cj_world.proofs.Steps.{gained_looks, begun_same, same_codes}
use Rattle.cj_world.proofs.runs.Run.begin.Goals as goal

pub returns-clause-made : goal.returns-clause-made
unfolding run_of progress_by
returns-clause-made c =
    let e = c.in_ok-engine.ensures in
    let P = c.args.checked.now in
    let looks = c.in_ok-engine.engine.looks in
    let call = begun c.args.call.now in
    let old = c.args.cache.now in
    let same = same_codes old c.start.new.watch e.keeps.stays in
    let made = subst (λ (codes : Codes). version_start P codes (slice_get looks 0) call ≡ Continues c.in_ok-engine.engine.state) same e.made in
    begun_same P _ old.current call looks c.in_ok-engine.engine.state
    (gained_looks _ looks old.trail c.start.new.watch.trail (looks_of old.current (start_marks call)) e.gains e.went.trail)
    made

pub returns-clause-fits : goal.returns-clause-fits
returns-clause-fits c =
    let e = c.in_ok-engine.ensures in
    let same = same_codes c.args.cache.now c.start.new.watch e.keeps.stays in
    record {
      program = e.program;
      takes = c.requires.fits.takes;
      running = λ none. e.running;
      used = e.run.used;
      at = subst (λ (codes : Codes). IsRun c.args.checked.now codes c.in_ok-engine.engine.looks (begun c.args.call.now) c.in_ok-engine.engine.state) same e.run;
    }
