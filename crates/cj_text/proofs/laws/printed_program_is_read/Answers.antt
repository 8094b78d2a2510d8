use Rattle.cj_text.proofs.OnlyRead.{program_reads}
use Rattle.cj_text.proofs.laws.printed_program_is_read.Goals as goal

pub returns : goal.returns
returns c =
    program_reads c.args.checked.now c.program.result.now c.program.ensures.same c.program.ensures.well_formed c.visit_program.ensures
