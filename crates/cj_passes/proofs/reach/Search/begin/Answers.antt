use Rattle.cj_passes.specs.Lowering.{Entry}
use Rattle.cj_passes.proofs.reach.Search.begin.Goals as goal

pub visit-requires-clause-reached : goal.visit-requires-clause-reached
visit-requires-clause-reached c = Entry
