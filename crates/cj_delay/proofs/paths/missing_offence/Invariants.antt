use Rattle.std.proofs.Common.{◌≡◌, drop}
use Rattle.cj_delay.specs.DelayedAssume.{missing_offence}
use Rattle.cj_delay.proofs.paths.missing_offence.Given as goal

abbrev pub invariant-loop-label : goal.invariant-loop-label
invariant-loop-label l = missing_offence l.code (drop l.label-index l.labels) ≡ missing_offence l.code l.labels
