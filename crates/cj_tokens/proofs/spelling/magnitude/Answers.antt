use Rattle.std.proofs.Common.{◌≡◌, length, arith, sym, ◌∙◌}
use Rattle.cj_tokens.proofs.Magnitudes.{magnitude_end}
use Rattle.cj_tokens.proofs.spelling.magnitude.Goals as goal

pub returns : goal.returns
returns c =
    let e : c.loop-byte.byte-index ≡ length c.args.digits.now = omega arith in
    sym (c.loop-byte.invariant.1 ∙ rw e (magnitude_end 9223372036854775809 c.loop-byte.worth c.args.digits.now c.loop-byte.invariant.0))
