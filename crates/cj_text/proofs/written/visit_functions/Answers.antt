use Rattle.std.proofs.Common.{arith}
use Rattle.cj_text.specs.Written.{IsFunctionWritten}
use Rattle.cj_text.proofs.Walks.{held_item}
use Rattle.cj_text.proofs.written.visit_functions.Goals as goal

pub loop-function-preserved : goal.loop-function-preserved
loop-function-preserved c =
    held_item IsFunctionWritten c.args.functions.now c.loop-function.function-index c.function-item.result
    (omega (arith, c.loop-function-test.true)) c.function-item.is c.loop-function.invariant c.visit_function.ensures
