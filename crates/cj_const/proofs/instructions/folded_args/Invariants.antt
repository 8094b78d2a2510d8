use Rattle.std.proofs.Common.{◌≡◌, map, take}
use Rattle.cj_const.specs.Knowledge.{known, folded_operand}
use Rattle.cj_const.proofs.instructions.folded_args.Given as goal

abbrev pub invariant-loop-operand : goal.invariant-loop-operand
invariant-loop-operand l = l.made ≡ map (folded_operand (known l.row)) (take l.operand-index l.operand-items)
