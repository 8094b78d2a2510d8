use Rattle.std.proofs.Common.{sym}
use Rattle.cj_world.specs.Caches.{made_in}
use Rattle.cj_world.proofs.Finding.{version_found, version_missing, found_program}
use Rattle.cj_world.proofs.cache.CacheWatch.version.Goals as goal

pub unreachable-requires : goal.unreachable-requires
unfolding made_in
unreachable-requires c =
    version_missing c.args.self.now.versions.entries c.args._f c.args.offset c.requires.key (sym c.in-None.ensures.value)

pub returns-clause-code : goal.returns-clause-code
unfolding made_in
returns-clause-code c =
    version_found c.args.self.now.versions.entries c.args._f c.args.offset c.in-Some.version.now c.requires.key (sym c.in-Some.ensures.value)

pub returns-clause-program : goal.returns-clause-program
returns-clause-program c =
    found_program c.args.self.now.checked.now c.args.self.now.versions.entries c.args.offset c.in-Some.version.now c.requires.ready.programs
    (sym c.in-Some.ensures.value)
