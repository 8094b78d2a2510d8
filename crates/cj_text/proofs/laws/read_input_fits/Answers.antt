use Rattle.cj_text.proofs.OneReading.{only_reading, read_well_formed, read_fits}
use Rattle.cj_text.proofs.laws.read_input_fits.Goals as goal

pub returns-clause-only : goal.returns-clause-only
returns-clause-only c input answer first second = only_reading c.args.bytes.now input first answer second

pub returns-clause-well_formed : goal.returns-clause-well_formed
returns-clause-well_formed c input reads = read_well_formed c.args.bytes.now input reads

pub returns-clause-fits : goal.returns-clause-fits
returns-clause-fits c input reads = read_fits c.args.bytes.now input reads
