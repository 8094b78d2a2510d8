use Rattle.std.proofs.Common.{◌≡◌, ◌∙◌, ◌≤◌, ◌+◌, ℕ, List, length, get_or, ap, arith, if◌then◌else◌}
use Rattle.std.specs.Prelude.{is_some}
use Rattle.cj_calls.specs.declared.report.Report.{Report}
use Rattle.cj_bench.specs.Summary.{value_of_end}
use Rattle.cj_bench.proofs.Totals.{returns_turn, returns_end, as_one, at_most_one}
use Rattle.cj_bench.proofs.summary.count_returned.Goals as goal

pub loop-report-preserved : goal.loop-report-preserved
loop-report-preserved c =
    let rs : List Report = c.args.reports.now in
    let i : ℕ = c.loop-report.report-index in
    let r : Report = c.report-item.result in
    let found : c.is_returned.result ≡ is_some (value_of_end (get_or rs i r).end) =
    c.is_returned.ensures ∙ ap (λ (x : Report). is_some (value_of_end x.end)) c.report-item.is
    in
    let one : c.from-count.result ≡ (if is_some (value_of_end (get_or rs i r).end) then 1 else 0) =
    c.from-count.ensures ∙ as_one c.is_returned.result _ found
    in
    let few : c.from-count.result ≤ 1 = at_most_one _ _ one in (
      returns_turn rs i r c.loop-report.count (c.loop-report.count + c.from-count.result) _ c.loop-report-test.true c.loop-report.invariant.0
          (ap (λ n. c.loop-report.count + n) one),
      omega (arith, few, c.loop-report.invariant.1),
    )

pub returns : goal.returns
returns c =
    let past : length c.args.reports.now ≤ c.loop-report.report-index = omega arith in
    returns_end c.args.reports.now c.loop-report.report-index c.loop-report.count _ past c.loop-report.invariant.0
