use Rattle.std.proofs.Common.{◌≡◌, false, replicate}
use Rattle.cj_passes.proofs.reach.no_marks.Given as goal

abbrev pub invariant-loop-label : goal.invariant-loop-label
invariant-loop-label l = l.marks ≡ replicate l._label false
