use Rattle.std.proofs.Common.{arith}
use Rattle.cj_ir.specs.declared.language.Line.{Line}
use Rattle.cj_text.specs.Written.{IsInstrWritten}
use Rattle.cj_text.proofs.Walks.{held_item}
use Rattle.cj_text.proofs.written.visit_lines.Goals as goal

pub loop-line-preserved : goal.loop-line-preserved
loop-line-preserved c =
    held_item (λ (line : Line). IsInstrWritten line.instr) c.args.lines.now c.loop-line.line-index c.line-item.result
    (omega (arith, c.loop-line-test.true)) c.line-item.is c.loop-line.invariant c.visit_instr.ensures
