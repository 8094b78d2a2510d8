use Rattle.cj_assume.proofs.AssumedGuards.{assumed_guards}
use Rattle.cj_assume.proofs.laws.guards_are_assumed.Goals as goal

pub returns : goal.returns
returns c = assumed_guards
