use Rattle.cj_text.specs.Written.{IsCallWritten}
use Rattle.cj_text.proofs.Walks.{HoldsBelow}
use Rattle.cj_text.proofs.written.visit_calls.Given as goal

abbrev pub invariant-loop-call : goal.invariant-loop-call
invariant-loop-call l = HoldsBelow IsCallWritten l.call-index l.calls
