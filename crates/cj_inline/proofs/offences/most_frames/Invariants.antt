use Rattle.std.proofs.Common.{◌≡◌, take}
use Rattle.cj_inline.specs.Inlining.{greatest_of, place_frames}
use Rattle.cj_inline.proofs.offences.most_frames.Given as goal

abbrev pub invariant-each : goal.invariant-each
invariant-each l = l.most ≡ greatest_of place_frames (take l.place-index l.places)
