use Rattle.cj_text.specs.Written.{IsOperandWritten}
use Rattle.cj_text.proofs.Walks.{HoldsBelow}
use Rattle.cj_text.proofs.written.visit_operands.Given as goal

abbrev pub invariant-loop-operand : goal.invariant-loop-operand
invariant-loop-operand l = HoldsBelow IsOperandWritten l.operand-index l.operands
