use Rattle.cj_ir.specs.declared.language.Line.{Line}
use Rattle.cj_text.specs.Written.{IsInstrWritten}
use Rattle.cj_text.proofs.Walks.{HoldsBelow}
use Rattle.cj_text.proofs.written.visit_lines.Given as goal

abbrev pub invariant-loop-line : goal.invariant-loop-line
invariant-loop-line l = HoldsBelow (λ (line : Line). IsInstrWritten line.instr) l.line-index l.lines
