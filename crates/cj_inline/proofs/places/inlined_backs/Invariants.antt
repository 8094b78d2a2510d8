use Rattle.std.proofs.Common.{◌≡◌, map, take}
use Rattle.cj_inline.specs.Inlining.{inlined_back}
use Rattle.cj_inline.proofs.places.inlined_backs.Given as goal

abbrev pub invariant-each : goal.invariant-each
invariant-each l = l.made ≡ map (inlined_back l.seam) (take l.pair-index l.backs)
