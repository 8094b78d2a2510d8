use Rattle.std.proofs.Common.{◌≡◌, take}
use Rattle.cj_plan.specs.Plan.{each_from, cold_of}
use Rattle.cj_plan.proofs.colds.colds_in.Given as goal

abbrev pub invariant-loop-label : goal.invariant-loop-label
invariant-loop-label l = l.colds ≡ take 64 (each_from (cold_of l.notes) 0 (take l.label l.code))
