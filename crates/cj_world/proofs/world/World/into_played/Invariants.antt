use Rattle.std.proofs.Common.{length, take}
use Rattle.std.specs.List.{AllZip}
use Rattle.cj_world.specs.Worlds.{codes_in}
use Rattle.cj_world.specs.Caches.{made_in}
use Rattle.cj_world.specs.Running.{IsToldOf}
use Rattle.cj_world.proofs.world.World.into_played.Given as goal

abbrev pub invariant-loop-run : goal.invariant-loop-run
invariant-loop-run l =
    AllZip (IsToldOf l.fn.self.cache.checked.now (codes_in (made_in l.fn.self.cache))) (take (length l.yielded) l.fn.self.runs.items) l.reports
