use Rattle.std.proofs.Common.{arith}
use Rattle.cj_text.specs.Written.{IsName}
use Rattle.cj_text.proofs.Walks.{held_item}
use Rattle.cj_text.proofs.written.visit_names.Goals as goal

pub loop-name-preserved : goal.loop-name-preserved
loop-name-preserved c =
    held_item IsName c.args.names.now c.loop-name.name-index c.name-item.result (omega (arith, c.loop-name-test.true)) c.name-item.is c.loop-name.invariant
    c.visit_name.ensures
