use Rattle.std.proofs.Common.{◌∙◌, sym, subst, length}
use Rattle.std.proofs.lemmas.List.{length_push}
use Rattle.std.proofs.lemmas.Iterator.Adapters.{YieldsList-from_vec}
use Rattle.std.proofs.lemmas.Iterator.Consumers.{YieldsList-turn}
use Rattle.cj_world.specs.declared.runs.Run.{Run}
use Rattle.cj_world.specs.Worlds.{codes_in}
use Rattle.cj_world.specs.Caches.{made_in}
use Rattle.cj_world.specs.Running.{Fits, IsToldOf}
use Rattle.cj_ir.proofs.Zips.{AllZip-more}
use Rattle.cj_world.proofs.world.World.into_played.Goals as goal

pub loop-run-preserved : goal.loop-run-preserved
loop-run-preserved c =
    let P = c.args.self.cache.checked.now in
    let codes = codes_in (made_in c.args.self.cache) in
    let items = c.args.self.runs.items in
    let gives = c.into_iter-run-iterator.ensures.into_iter_gives in
    let t = YieldsList-turn (YieldsList-from_vec {s = c.into_iter-run-iterator.result} items gives.0 (gives.1 ∙ c.args.self.runs.ok.0)) c.loop-run.yielded
    c.loop-run.run-iterator c.loop-run.yielded_by c.next.result c.next.new.self c.in-Some.run' c.in-Some.is c.next.ensures.steps in
    let k = length c.loop-run.yielded in
    let fits : Fits P codes c.in-Some.run' = subst (λ (r : Run). Fits P codes r) (sym t.1) (c.requires.orderly.fit k c.in-Some.run' t.0) in
    let told : IsToldOf P codes c.in-Some.run' c.report.result = record {
      read_off = c.report.ensures.read_off P codes fits;
      takes = fits.takes;
      report = c.report.ensures.report P codes fits;
    } in
    rw (length_push c.loop-run.yielded c.in-Some.run', c.in_ok-push.ensures.ok)
    (AllZip-more (IsToldOf P codes) items c.loop-run.reports k c.in-Some.run' c.report.result t.0 t.1 c.loop-run.invariant told)
