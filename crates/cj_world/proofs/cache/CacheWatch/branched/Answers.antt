use Rattle.cj_world.specs.Caches.{went_by_branching}
use Rattle.cj_world.proofs.cache.CacheWatch.branched.Goals as goal

pub returns-clause-went : goal.returns-clause-went
returns-clause-went c = went_by_branching c.args.self.now c.args._f c.args._label c.args._edge
