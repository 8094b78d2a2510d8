use Rattle.std.proofs.Common.{◌≡◌, take}
use Rattle.cj_plan.specs.Plan.{each_from, guard_of}
use Rattle.cj_plan.proofs.guards.guards_in.Given as goal

abbrev pub invariant-loop-param : goal.invariant-loop-param
invariant-loop-param l = l.guards ≡ each_from guard_of 0 (take l.param l.params)
