use Rattle.std.proofs.Common.{◌≡◌, refl, Some}
use Rattle.std.specs.Prelude.{slice_get}
use Rattle.std.proofs.lemmas.Option.{slice_get_read}
use Rattle.std.proofs.lemmas.List.Elements.{All-set}
use Rattle.cj_world.specs.Worlds.{codes_in}
use Rattle.cj_world.specs.Caches.{made_in}
use Rattle.cj_world.specs.Running.{Fits}
use Rattle.cj_world.proofs.Changing.{gone_world, orderly_after}
use Rattle.cj_world.proofs.world.World.go.Goals as goal

pub returns-clause-made : goal.returns-clause-made
returns-clause-made c =
    let e = c.in_ok-go.ensures in
    let w = c.args.self.now in
    let was = c.index_mut-run.result.now in
    let found : slice_get w.runs.items c.args.place
    ≡ Some was = slice_get_read w.runs.items _ c.args.place was refl c.requires.begun c.index_mut-run.ensures.value in
    gone_world w.cache.checked.now c.args.place c.args.count w _ was c.go.new.self e.stays refl refl refl found refl e.gains e.made

pub returns-clause-gone : goal.returns-clause-gone
returns-clause-gone c =
    let w = c.args.self.now in
    let was = c.index_mut-run.result.now in
    record {
      was = was;
      now = c.go.new.self;
      at = slice_get_read w.runs.items _ c.args.place was refl c.requires.begun c.index_mut-run.ensures.value;
      instead = refl;
      through = c.in_ok-go.ensures.through;
    }

pub returns-clause-orderly : goal.returns-clause-orderly
returns-clause-orderly c =
    let e = c.in_ok-go.ensures in
    let w = c.args.self.now in
    let fits = Fits w.cache.checked.now (codes_in (made_in w.cache)) in
    orderly_after w _ e.stays e.ready refl c.requires.orderly
    (All-set fits w.runs.items c.args.place c.go.new.self e.fits c.requires.orderly.fit)
