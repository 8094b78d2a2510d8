use Rattle.std.proofs.Common.{◌≡◌, ◌++◌, take}
use Rattle.cj_plan.specs.Plan.{each_from, delay_of}
use Rattle.cj_plan.proofs.colds.add_each_delay.Given as goal

abbrev pub invariant-loop-number : goal.invariant-loop-number
invariant-loop-number l = l.passes ≡ l.fn.passes ++ each_from (delay_of l.entry l.first l.colds) 0 (take l.number l.colds)
