use Rattle.std.proofs.Common.{◌≡◌, take}
use Rattle.cj_inline.specs.Inlining.{greatest_of, back_frames}
use Rattle.cj_inline.proofs.offences.backs_frames.Given as goal

abbrev pub invariant-each : goal.invariant-each
invariant-each l = l.most ≡ greatest_of back_frames (take l.pair-index l.backs)
