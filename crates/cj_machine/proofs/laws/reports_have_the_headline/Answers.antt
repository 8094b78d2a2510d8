use Rattle.cj_machine.proofs.Reporting.{report_agrees}
use Rattle.cj_machine.proofs.laws.reports_have_the_headline.Goals as goal

pub returns : goal.returns
returns c = λ P codes looks call r formed sound takes e. report_agrees P codes call formed sound looks r takes e
