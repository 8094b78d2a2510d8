use Rattle.cj_parts.proofs.Known.{code_is}
use Rattle.cj_parts.proofs.laws.version_read_whole_is_known.Goals as goal

pub returns : goal.returns
returns c = λ v f offset code ok h. code_is v f offset code ok h
