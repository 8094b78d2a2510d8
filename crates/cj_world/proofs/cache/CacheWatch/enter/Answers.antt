use Rattle.std.proofs.Common.{◌∙◌, refl, sym, append-nil, inl}
use Rattle.cj_engine.proofs.Onwards.{refused_so}
use Rattle.cj_world.specs.Worlds.{look_at, looks_of}
use Rattle.cj_world.specs.Caches.{made_in}
use Rattle.cj_world.proofs.cache.CacheWatch.enter.Goals as goal

pub returns-clause-found : goal.returns-clause-found
unfolding made_in
returns-clause-found c = rw c.items.ensures (c.requires.ready.found c.args.f)

pub returns-clause-went : goal.returns-clause-went
unfolding looks_of look_at
returns-clause-went c = record { trail = rw c.items.ensures at c.in_ok-push.ensures.ok; current = refl }

pub returns-clause-grows : goal.returns-clause-grows
unfolding made_in
returns-clause-grows c = λ f offset code found. found

-- nothing was told, and no look was kept
pub returns-in_err-push-clause-no_memory : goal.returns-in_err-push-clause-no_memory
unfolding looks_of
returns-in_err-push-clause-no_memory c =
    let same = c.in_err-push.ensures.err in
    refused_so c.from_residual.result _ (inl (record { trail = same ∙ sym (append-nil c.args.self.now.trail); current = refl }, same))
