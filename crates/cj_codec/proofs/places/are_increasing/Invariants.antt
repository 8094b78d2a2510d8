use Rattle.std.proofs.Common.{◌≡◌, drop}
use Rattle.cj_codec.specs.Reading.{rise_from}
use Rattle.cj_codec.proofs.places.are_increasing.Given as goal

abbrev pub invariant-each : goal.invariant-each
invariant-each l = rise_from 0 l.facts ≡ rise_from l.least (drop l.fact-index l.facts)
