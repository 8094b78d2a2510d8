use Rattle.cj_world.proofs.Trails.{looks_never_fall}
use Rattle.cj_world.proofs.laws.looks_never_fall.Goals as goal

pub returns : goal.returns
returns c = looks_never_fall
