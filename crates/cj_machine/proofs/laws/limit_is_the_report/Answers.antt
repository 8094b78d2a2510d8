use Rattle.cj_machine.proofs.Runs.{report_at_limit}
use Rattle.cj_machine.proofs.laws.limit_is_the_report.Goals as goal

pub returns : goal.returns
returns c = λ P codes looks call s is limit. report_at_limit P codes looks call s.turns s is.run limit is.used
