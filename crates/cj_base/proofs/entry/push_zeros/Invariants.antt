use Rattle.std.proofs.Common.{◌≡◌, ◌++◌, pos, replicate}
use Rattle.cj_base.proofs.entry.push_zeros.Given as goal

abbrev pub invariant-loop : goal.invariant-loop
invariant-loop l = l.values ≡ l.fn.values ++ replicate l.counter (pos 0)
