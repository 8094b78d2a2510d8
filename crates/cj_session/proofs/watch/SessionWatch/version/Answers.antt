use Rattle.std.proofs.Common.{sym, ap}
use Rattle.cj_session.specs.Versions.{codes_in, code_of}
use Rattle.cj_session.proofs.Map.{found_program, none_found}
use Rattle.cj_session.proofs.watch.SessionWatch.version.Goals as goal

pub unreachable-requires : goal.unreachable-requires
unfolding codes_in
unreachable-requires c = none_found _ c.args.self.now.versions.map.entries c.requires.key (sym c.in-None.ensures.value)

pub returns-clause-code : goal.returns-clause-code
unfolding codes_in
returns-clause-code c = ap code_of (sym c.in-Some.ensures.value)

pub returns-clause-program : goal.returns-clause-program
returns-clause-program c =
    found_program c.args.self.now.checked.now _ c.args.self.now.versions.map.entries c.in-Some.version.now
    c.requires.ready.known.programs (sym c.in-Some.ensures.value)
