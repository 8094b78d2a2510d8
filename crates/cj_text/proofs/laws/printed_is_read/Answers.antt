use Rattle.cj_printer.specs.Canonical.{input_text}
use Rattle.cj_text.proofs.OneReading.{only_reading}
use Rattle.cj_text.proofs.OnlyRead.{input_reads}
use Rattle.cj_text.proofs.laws.printed_is_read.Goals as goal

pub returns-clause-reads : goal.returns-clause-reads
returns-clause-reads c =
    input_reads c.args.input.now c.program.result.now c.program.ensures.same c.program.ensures.well_formed c.visit_program.ensures c.requires
    c.visit_script.ensures

pub returns-clause-only : goal.returns-clause-only
returns-clause-only c =
    only_reading (input_text c.args.input.now) c.args.input.now
    (input_reads c.args.input.now c.program.result.now c.program.ensures.same c.program.ensures.well_formed c.visit_program.ensures c.requires
    c.visit_script.ensures)
