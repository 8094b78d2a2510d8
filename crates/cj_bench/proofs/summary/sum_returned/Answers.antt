use Rattle.std.proofs.Common.{◌≡◌, ◌∙◌, ◌+ℤ◌, ℕ, ℤ, List, ap, drop, get_or, ◌+◌, subst, w64, to_z, of_z}
use Rattle.std.specs.Prelude.{MatchOption}
use Rattle.std.proofs.Math.Facts.{sfits_to_z}
use Rattle.std.proofs.lemmas.Int.{to_z-of_z}
use Rattle.cj_ir.specs.Values.{wrap}
use Rattle.cj_calls.specs.declared.report.Report.{Report}
use Rattle.cj_bench.specs.Summary.{value_of_end, returned, total}
use Rattle.cj_bench.proofs.Totals.{sum_turn, sum_end, sum_start}
use Rattle.cj_bench.proofs.summary.sum_returned.Goals as goal

pub loop-report-init : goal.loop-report-init
loop-report-init c = sum_start (returned c.args.reports.now)

pub loop-report-preserved : goal.loop-report-preserved
loop-report-preserved c =
    let rs : List Report = c.args.reports.now in
    let i : ℕ = c.loop-report.report-index in
    let before : ℤ = to_z w64 c.loop-report.sum-bits in
    let now : ℤ = c.sum_with-sum.result in
    let step : MatchOption (value_of_end (get_or rs i c.report-item.result).end) (now ≡ before) (λ v. now ≡ wrap (before +ℤ v)) =
    subst (λ (r : Report). MatchOption (value_of_end r.end) (now ≡ before) (λ v. now ≡ wrap (before +ℤ v))) c.report-item.is c.sum_with-sum.ensures
    in
    let same : to_z w64 (of_z w64 now) ≡ now = to_z-of_z w64 now (record { sfits = c.sum_with-sum.type_inv }) in
    ap (λ s. wrap (s +ℤ total (returned (drop (i + 1) rs)))) same
    ∙ sum_turn rs i c.report-item.result before now _ c.loop-report-test.true c.loop-report.invariant step

pub returns : goal.returns
returns c =
    sum_end c.args.reports.now c.loop-report.report-index (to_z w64 c.loop-report.sum-bits) (wrap (total (returned c.args.reports.now)))
    (sfits_to_z c.loop-report.auto.sum) c.loop-report-test.false c.loop-report.invariant
