use Rattle.std.proofs.Common.{refl}
use Rattle.std.proofs.lemmas.List.Elements.{All-push}
use Rattle.cj_base.specs.Run.{begun}
use Rattle.cj_world.specs.Worlds.{codes_in}
use Rattle.cj_world.specs.Caches.{made_in}
use Rattle.cj_world.specs.Running.{Fits}
use Rattle.cj_world.proofs.Changing.{begun_world, orderly_after}
use Rattle.cj_world.proofs.world.World.begin.Goals as goal

pub returns-clause-made : goal.returns-clause-made
returns-clause-made c =
    let e = c.in_ok-run.ensures in
    begun_world c.args.self.now.cache.checked.now (begun c.args.call.now) c.args.self.now _ c.in_ok-run.run' e.stays refl refl refl c.in_ok-push.ensures.items
    e.trail e.made

pub returns-clause-orderly : goal.returns-clause-orderly
returns-clause-orderly c =
    let e = c.in_ok-run.ensures in
    let w = c.args.self.now in
    let fits = Fits w.cache.checked.now (codes_in (made_in w.cache)) in
    orderly_after w _ e.stays e.ready refl c.requires.orderly
    (rw c.in_ok-push.ensures.items (All-push fits w.runs.items c.in_ok-run.run' c.requires.orderly.fit e.fits))
