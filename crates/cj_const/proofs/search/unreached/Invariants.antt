use Rattle.std.proofs.Common.{◌≡◌, replicate, None}
use Rattle.cj_const.proofs.search.unreached.Given as goal

abbrev pub invariant-loop-label : goal.invariant-loop-label
invariant-loop-label l = l.rows ≡ replicate l._label None
