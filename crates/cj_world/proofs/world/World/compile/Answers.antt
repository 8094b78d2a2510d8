use Rattle.std.proofs.Common.{refl}
use Rattle.cj_world.specs.Running.{world_of}
use Rattle.cj_world.proofs.Changing.{compiled_world, same_world}
use Rattle.cj_world.proofs.world.World.compile.Goals as goal

pub returns-clause-made : goal.returns-clause-made
unfolding world_of
returns-clause-made c =
    let e = c.in_ok-answer.ensures in (
      c.in_ok-version.version.code,
      c.in_ok-version.skips,
      c.in_ok-version.ensures.made,
      compiled_world c.args.self.now.words c.in_ok-version.version.code c.in_ok-version.skips c.in_ok-answer.answer (world_of c.args.self.now)
          (world_of c.publish.new.self) _
          e.answer e.made (same_world _ _ refl refl refl refl refl c.in_ok-push.ensures.ok c.in_ok-push-2.ensures.ok),
    )
