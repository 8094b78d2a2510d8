use Rattle.std.proofs.Common.{arith}
use Rattle.cj_io.proofs.memory.MemSinkSink.write.Goals as goal

pub returns-clause-some : goal.returns-clause-some
returns-clause-some c = omega (arith, c.self.invariant, c.requires, c.min-count.ensures)
