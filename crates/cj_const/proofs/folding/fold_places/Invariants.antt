use Rattle.std.proofs.Common.{◌≡◌}
use Rattle.cj_const.proofs.FoldedPlaces.{folded_upto}
use Rattle.cj_const.proofs.folding.fold_places.Given as goal

abbrev pub invariant-loop-label : goal.invariant-loop-label
invariant-loop-label l = l.places ≡ folded_upto l.regs l.fn.places l.table l.label
