use Rattle.std.proofs.Common.{◌≡◌, ◌+◌, drop}
use Rattle.cj_plan.specs.Plan.{led_from}
use Rattle.cj_plan.proofs.colds.led_from.Given as goal

abbrev pub invariant-loop-number : goal.invariant-loop-number
invariant-loop-number l = led_from l.first l.colds l.to ≡ led_from (l.first + l.number) (drop l.number l.colds) l.to
