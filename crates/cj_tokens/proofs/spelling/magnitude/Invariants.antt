use Rattle.std.proofs.Common.{◌≡◌, ◌≤◌, min, drop}
use Rattle.cj_tokens.specs.Spellings.{value}
use Rattle.cj_tokens.proofs.spelling.magnitude.Given as goal

abbrev pub invariant-loop-byte : goal.invariant-loop-byte
invariant-loop-byte l = (l.worth ≤ 9223372036854775809)
    × (min (value 0 l.digits) 9223372036854775809 ≡ min (value l.worth (drop l.byte-index l.digits)) 9223372036854775809)
