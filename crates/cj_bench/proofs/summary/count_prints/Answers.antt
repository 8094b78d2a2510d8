use Rattle.std.proofs.Common.{◌∙◌, ◌≤◌, ◌+◌, ℕ, List, length, ap, arith}
use Rattle.cj_calls.specs.declared.report.Report.{Report}
use Rattle.cj_bench.proofs.Totals.{prints_turn, prints_end}
use Rattle.cj_bench.proofs.summary.count_prints.Goals as goal

pub loop-report-preserved : goal.loop-report-preserved
loop-report-preserved c =
    let rs : List Report = c.args.reports.now in
    let i : ℕ = c.loop-report.report-index in
    let r : Report = c.report-item.result in
    let step = ap (λ n. c.loop-report.count + n) (c.prints_of.ensures ∙ ap (λ (x : Report). length x.printed) c.report-item.is) in (
      prints_turn rs i r c.loop-report.count (c.loop-report.count + c.prints_of.result) _ c.loop-report-test.true c.loop-report.invariant.0 step,
      omega (arith, c.loop-report.invariant.1, c.prints_of.type_inv),
    )

pub returns : goal.returns
returns c =
    let past : length c.args.reports.now ≤ c.loop-report.report-index = omega arith in
    prints_end c.args.reports.now c.loop-report.report-index c.loop-report.count _ past c.loop-report.invariant.0
