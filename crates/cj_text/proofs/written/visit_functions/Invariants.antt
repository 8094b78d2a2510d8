use Rattle.cj_text.specs.Written.{IsFunctionWritten}
use Rattle.cj_text.proofs.Walks.{HoldsBelow}
use Rattle.cj_text.proofs.written.visit_functions.Given as goal

abbrev pub invariant-loop-function : goal.invariant-loop-function
invariant-loop-function l = HoldsBelow IsFunctionWritten l.function-index l.functions
