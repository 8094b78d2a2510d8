use Rattle.std.proofs.Common.{◌≡◌, ◌+ℤ◌, drop}
use Rattle.cj_ir.specs.Values.{wrap}
use Rattle.cj_bench.specs.Summary.{returned, total}
use Rattle.cj_bench.proofs.summary.sum_returned.Given as goal

abbrev pub invariant-loop-report : goal.invariant-loop-report
invariant-loop-report l =
    wrap (l.sum +ℤ total (returned (drop l.report-index l.reports))) ≡ wrap (total (returned l.fn.reports))
