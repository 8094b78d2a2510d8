use Rattle.std.proofs.Common.{◌≡◌, ◌++◌, take}
use Rattle.cj_assume.proofs.places.append.Given as goal

abbrev pub invariant-loop-guard : goal.invariant-loop-guard
invariant-loop-guard l = l.guards ≡ l.fn.guards ++ take l.guard-index l.more
