use Rattle.cj_text.specs.Written.{IsValue}
use Rattle.cj_text.proofs.Walks.{HoldsBelow}
use Rattle.cj_text.proofs.written.visit_values.Given as goal

abbrev pub invariant-loop-value : goal.invariant-loop-value
invariant-loop-value l = HoldsBelow IsValue l.value-index l.values
