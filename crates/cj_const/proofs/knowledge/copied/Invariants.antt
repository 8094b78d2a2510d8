use Rattle.std.proofs.Common.{◌≡◌, take}
use Rattle.cj_const.proofs.knowledge.copied.Given as goal

abbrev pub invariant-loop-slot : goal.invariant-loop-slot
invariant-loop-slot l = l.twin ≡ take l.slot-index l.slot-items
