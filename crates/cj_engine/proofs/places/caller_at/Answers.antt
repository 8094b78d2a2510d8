use Rattle.std.proofs.Common.{refl}
use Rattle.cj_engine.proofs.places.caller_at.Goals as goal

pub version_instr-requires-clause-there : goal.version_instr-requires-clause-there
version_instr-requires-clause-there g c =
    let i = c.requires.caller.1 in
    (i.place.instr, record { code = i.code; place = i.place; found = i.found; at = i.at; is = refl })
