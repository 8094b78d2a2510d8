use Rattle.std.proofs.Common.{◌≡◌, List, subst}
use Rattle.std.specs.Prelude.{ℤ, slice_get}
use Rattle.cj_base.specs.Run.{begun}
use Rattle.cj_machine.specs.Versions.{Continues}
use Rattle.cj_machine.specs.VersionRuns.{version_start}
use Rattle.cj_machine.specs.Marks.{start_marks}
use Rattle.cj_engine.specs.Engines.{begun_with}
use Rattle.cj_machine.specs.CallRuns.{IsRun}
use Rattle.cj_engine.proofs.Onwards.{refused_so}
use Rattle.cj_engine.proofs.engine.Engine.start.Goals as goal

pub returns-clause-made : goal.returns-clause-made
unfolding begun begun_with
returns-clause-made g c =
    let zeros = c.in_ok-memory.ensures in
    let m = c.in_ok-engine.engine in
    subst (λ (memory : List ℤ). version_start c.args.checked.now (g.W.Watch.codes c.start_from.new.watch) (slice_get m.looks 0)
    (begun_with c.args.call.now memory) ≡ Continues (m.state)) zeros c.in_ok-engine.ensures.made

pub returns-clause-run : goal.returns-clause-run
unfolding begun begun_with
returns-clause-run g c =
    let zeros = c.in_ok-memory.ensures in
    let m = c.in_ok-engine.engine in
    subst (λ (memory : List ℤ). IsRun c.args.checked.now (g.W.Watch.codes c.start_from.new.watch) m.looks (begun_with c.args.call.now memory) (m.state)) zeros
    c.in_ok-engine.ensures.run

pub returns-clause-went : goal.returns-clause-went
unfolding begun begun_with start_marks
returns-clause-went g c = c.in_ok-engine.ensures.went

pub returns-in_err-engine-clause-told : goal.returns-in_err-engine-clause-told
unfolding begun begun_with start_marks
returns-in_err-engine-clause-told g c = refused_so _ _ c.in_err-engine.ensures.told
