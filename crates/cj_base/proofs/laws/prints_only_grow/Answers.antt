use Rattle.cj_base.proofs.Printing.{prints_grow}
use Rattle.cj_base.proofs.laws.prints_only_grow.Goals as goal

pub returns : goal.returns
returns c = prints_grow
