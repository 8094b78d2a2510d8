use Rattle.cj_parts.proofs.Calling.{is_v}
use Rattle.cj_parts.proofs.laws.reports_of_runs_are_v.Goals as goal

pub returns : goal.returns
returns c = λ P codes looks call r e. is_v P codes looks call r e
