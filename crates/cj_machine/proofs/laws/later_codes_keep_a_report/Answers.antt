use Rattle.cj_machine.proofs.Runs.{report_kept}
use Rattle.cj_machine.proofs.laws.later_codes_keep_a_report.Goals as goal

pub returns : goal.returns
returns c = λ P codes later looks call r e g. report_kept P call codes later looks r g e
