use Rattle.cj_bench.proofs.Readings.{input_well_formed, input_fits, text_reads, text_reads_only}
use Rattle.cj_bench.proofs.laws.generated_is_an_input.Goals as goal

pub returns-clause-reads : goal.returns-clause-reads
returns-clause-reads c number = text_reads number

pub returns-clause-only : goal.returns-clause-only
returns-clause-only c number answer reads = text_reads_only number answer reads

pub returns-clause-well_formed : goal.returns-clause-well_formed
returns-clause-well_formed c number = input_well_formed number

pub returns-clause-fits : goal.returns-clause-fits
returns-clause-fits c number = input_fits number
