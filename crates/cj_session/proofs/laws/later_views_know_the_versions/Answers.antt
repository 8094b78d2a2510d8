use Rattle.cj_session.proofs.Going.{known_later}
use Rattle.cj_session.proofs.laws.later_views_know_the_versions.Goals as goal

pub returns : goal.returns
returns c = λ P v w versions h g. known_later P v w versions.map.entries g h
