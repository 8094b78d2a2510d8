use Rattle.std.proofs.Common.{take}
use Rattle.cj_alone.specs.Preparing.{HasWarmedUp}
use Rattle.cj_alone.proofs.preparing.warm_up.Given as goal

abbrev pub invariant-loop-setup : goal.invariant-loop-setup
invariant-loop-setup l = HasWarmedUp (take l.setup-index l.setups) l.warm l.initial.worker l.worker
