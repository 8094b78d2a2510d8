use Rattle.std.proofs.Common.{◌≡◌, map, take}
use Rattle.cj_plan.proofs.colds.labels_of.Given as goal

abbrev pub invariant-loop-cold : goal.invariant-loop-cold
invariant-loop-cold l = l.labels ≡ map (λ x. x.label) (take l.cold-index l.colds)
