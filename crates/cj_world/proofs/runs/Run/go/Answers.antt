use Rattle.std.proofs.Common.{sym, ap, Option}
use Rattle.cj_base.specs.declared.machine.End.{End}
use Rattle.cj_world.specs.Worlds.{codes_in}
use Rattle.cj_world.specs.Caches.{made_in}
use Rattle.cj_world.specs.Running.{run_of, progress_by}
use Rattle.cj_world.proofs.Going.{over_rests}
use Rattle.cj_world.proofs.runs.Run.go.Goals as goal

pub returns-in-Some-clause-made : goal.returns-in-Some-clause-made
unfolding run_of progress_by
returns-in-Some-clause-made c =
    let r = c.args.self.now in
    let old = c.args.cache.now in
    sym (over_rests old.checked.now (codes_in (made_in old)) old.current (run_of r) c.in-Some.field-0 r.engine.state c.args.count
    (ap (λ (o : Option End). progress_by o r.engine.state) c.in-Some.is))
