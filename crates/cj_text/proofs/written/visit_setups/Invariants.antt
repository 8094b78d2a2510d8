use Rattle.cj_text.specs.Written.{IsSetupWritten}
use Rattle.cj_text.proofs.Walks.{HoldsBelow}
use Rattle.cj_text.proofs.written.visit_setups.Given as goal

abbrev pub invariant-loop-setup : goal.invariant-loop-setup
invariant-loop-setup l = HoldsBelow IsSetupWritten l.setup-index l.setups
