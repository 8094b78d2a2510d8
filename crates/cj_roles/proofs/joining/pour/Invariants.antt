use Rattle.std.proofs.Common.{◌≡◌, ◌++◌, reverse, length}
use Rattle.cj_roles.proofs.joining.pour.Given as goal

abbrev pub invariant-loop-note : goal.invariant-loop-note
invariant-loop-note l = l.work ++ reverse l.more ≡ l.fn.work ++ reverse l.fn.more

abbrev pub decreases-loop-note : goal.decreases-loop-note
decreases-loop-note l = length l.more
