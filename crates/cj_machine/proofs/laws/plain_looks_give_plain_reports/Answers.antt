use Rattle.cj_machine.proofs.PlainTrails.{plain_report_is}
use Rattle.cj_machine.proofs.laws.plain_looks_give_plain_reports.Goals as goal

pub returns : goal.returns
returns c = plain_report_is
