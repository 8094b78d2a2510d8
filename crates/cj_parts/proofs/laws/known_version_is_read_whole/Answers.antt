use Rattle.cj_parts.proofs.Known.{known_in}
use Rattle.cj_parts.proofs.laws.known_version_is_read_whole.Goals as goal

pub returns : goal.returns
returns c = λ v f offset code e. known_in v f offset code e
