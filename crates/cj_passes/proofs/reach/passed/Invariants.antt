use Rattle.std.proofs.Common.{◌≡◌, ◌-◌}
use Rattle.cj_passes.specs.Lowering.{past_anchors, passed}
use Rattle.cj_passes.proofs.reach.passed.Given as goal

abbrev pub invariant-loop-step : goal.invariant-loop-step
invariant-loop-step l = past_anchors l.code (8 - l._step) l.to ≡ passed l.code l.fn.label
