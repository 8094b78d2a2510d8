use Rattle.std.proofs.Common.{◌≡◌, replicate}
use Rattle.cj_links.proofs.worklist.filled.Given as goal

abbrev pub invariant-loop-at : goal.invariant-loop-at
invariant-loop-at g l = l.made ≡ replicate l._at l.item
