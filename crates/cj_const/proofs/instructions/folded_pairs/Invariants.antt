use Rattle.std.proofs.Common.{◌≡◌, map, take}
use Rattle.cj_const.specs.Knowledge.{known}
use Rattle.cj_const.specs.Folding.{folded_pair}
use Rattle.cj_const.proofs.instructions.folded_pairs.Given as goal

abbrev pub invariant-loop-pair : goal.invariant-loop-pair
invariant-loop-pair l = l.made ≡ map (folded_pair (known l.row)) (take l.pair-index l.pair-items)
