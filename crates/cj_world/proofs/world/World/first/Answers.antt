use Rattle.std.proofs.Common.{◌∙◌, ◌+◌, ap, length, map}
use Rattle.cj_world.specs.Worlds.{first_world}
use Rattle.cj_world.specs.Running.{run_of, world_of}
use Rattle.cj_world.proofs.Changing.{same_world}
use Rattle.cj_world.proofs.world.World.first.Goals as goal

pub returns-clause-made : goal.returns-clause-made
unfolding first_world world_of
returns-clause-made c =
    let e = c.in_ok-new.ensures in
    same_world _ _
    (ap (λ fs. 1 + length fs) (c.items-functions.ensures) ∙ ap (λ p. 1 + length p.functions) c.program.ensures.same)
    e.current e.made (ap (λ runs. map run_of runs) c.new-2.ensures.items) e.trail c.new-3.ensures c.new-4.ensures
