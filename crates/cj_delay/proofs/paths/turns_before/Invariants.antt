use Rattle.std.proofs.Common.{◌≡◌, ◌<◌}
use Rattle.cj_delay.specs.DelayedAssume.{turns_before}
use Rattle.cj_delay.proofs.paths.turns_before.Given as goal

abbrev pub invariant-loop-index : goal.invariant-loop-index
invariant-loop-index l = record {
  turns : l.count ≡ turns_before l.code l.path l.index;
  few : l.count < l.index;
}
