use Rattle.std.proofs.Common.{◌≡◌, ◌∙◌, sym, ap, subst, Some}
use Rattle.cj_base.specs.declared.machine.End.{End}
use Rattle.cj_base.specs.Run.{begun}
use Rattle.cj_calls.specs.declared.report.Report.{Report}
use Rattle.cj_machine.specs.VersionRuns.{report_of, version_report}
use Rattle.cj_world.specs.Running.{run_of}
use Rattle.cj_world.proofs.Reporting.{read_at, told_whole}
use Rattle.cj_world.proofs.runs.Run.report.Goals as goal

pub returns-clause-read_off : goal.returns-clause-read_off
unfolding run_of
returns-clause-read_off c = λ P codes fits.
    let looks = c.args.self.engine.looks in
    let s = c.args.self.engine.state in
    let is = c.report.ensures ∙ ap (λ (end : End). report_of looks end s) c.end_or_limit.ensures in
    read_at looks c.args.self.end s fits.used ∙ ap (λ (r : Report). Some r) (sym is)

pub returns-clause-report : goal.returns-clause-report
unfolding begun report_of
returns-clause-report c = λ P codes fits.
    let looks = c.args.self.engine.looks in
    let s = c.args.self.engine.state in
    let call = begun c.args.self.call.now in
    let is = c.report.ensures ∙ ap (λ (end : End). report_of looks end s) c.end_or_limit.ensures in
    subst (λ (r : Report). version_report P codes r.looks call ≡ Some r) (sym is)
    (told_whole c.limit_is_the_report.ensures P codes looks call c.args.self.end s fits.at c.requires)
