use Rattle.cj_world.specs.Caches.{went_by_failing}
use Rattle.cj_world.proofs.cache.CacheWatch.failed.Goals as goal

pub returns-clause-went : goal.returns-clause-went
returns-clause-went c = went_by_failing c.args.self.now c.args._f
