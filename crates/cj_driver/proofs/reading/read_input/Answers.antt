use Rattle.cj_text.specs.Reads.{Reads}
use Rattle.cj_driver.proofs.Ends.{bytes_stop}
use Rattle.cj_driver.proofs.reading.read_input.Goals as goal

pub returns-in-Err-clause-stop : goal.returns-in-Err-clause-stop
returns-in-Err-clause-stop g c =
    bytes_stop Reads (g.S.Source.left c.args.source.now) (g.S.Source.left c.read_bytes.new.source) (g.S.Source.faults c.args.source.now)
    (g.S.Source.faults c.read_bytes.new.source) c.in-Err.stop c.in-Err.ensures.stop
