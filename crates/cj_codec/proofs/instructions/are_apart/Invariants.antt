use Rattle.std.proofs.Common.{◌≡◌, length}
use Rattle.cj_codec.specs.Reading.{are_apart}
use Rattle.cj_codec.proofs.instructions.are_apart.Given as goal

abbrev pub invariant-rest : goal.invariant-rest
invariant-rest l = are_apart l.pairs ≡ are_apart l.rest

abbrev pub decreases-rest : goal.decreases-rest
decreases-rest l = length l.rest
