use Rattle.std.proofs.Common.{◌≡◌, map, take}
use Rattle.cj_profile.specs.Shapes.{shape_of}
use Rattle.cj_profile.proofs.profile.shapes_of.Given as goal

abbrev pub invariant-loop-function : goal.invariant-loop-function
invariant-loop-function l = l.shapes ≡ map shape_of (take l.function-index l.functions)
