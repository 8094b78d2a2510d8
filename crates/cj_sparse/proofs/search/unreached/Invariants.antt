use Rattle.std.proofs.Common.{◌≡◌, replicate, None}
use Rattle.cj_sparse.proofs.search.unreached.Given as goal

abbrev pub invariant-loop-label : goal.invariant-loop-label
invariant-loop-label l = l.rows.items ≡ replicate l._label None
