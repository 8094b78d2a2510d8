use Rattle.std.proofs.Common.{◌≡◌, ◌++◌, map, take}
use Rattle.cj_inline.specs.Inlining.{inlined_place}
use Rattle.cj_inline.proofs.places.with_callee.Given as goal

abbrev pub invariant-each : goal.invariant-each
invariant-each l = l.places ≡ l.fn.places ++ map (inlined_place l.seam) (take l.place-index l.callee)
