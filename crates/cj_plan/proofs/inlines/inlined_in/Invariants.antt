use Rattle.std.proofs.Common.{◌≡◌, take}
use Rattle.cj_plan.specs.Plan.{each_from, inline_of}
use Rattle.cj_plan.proofs.inlines.inlined_in.Given as goal

abbrev pub invariant-loop-label : goal.invariant-loop-label
invariant-loop-label l = l.calls ≡ take 4 (each_from (inline_of l.checked l.f) 0 (take l.label l.code))
