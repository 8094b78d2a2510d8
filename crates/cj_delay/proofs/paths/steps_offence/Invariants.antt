use Rattle.std.proofs.Common.{◌≡◌, ◌-◌, length}
use Rattle.cj_delay.specs.DelayedAssume.{steps_offence}
use Rattle.cj_delay.proofs.paths.steps_offence.Given as goal

abbrev pub invariant-loop-at : goal.invariant-loop-at
invariant-loop-at l = steps_offence l.program l.code l.path (length l.path - l.at) l.at ≡ steps_offence l.program l.code l.path (length l.path - 1) 1
