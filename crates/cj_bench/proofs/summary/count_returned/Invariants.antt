use Rattle.std.proofs.Common.{◌≡◌, ◌+◌, ◌≤◌, length, drop}
use Rattle.cj_bench.specs.Summary.{returned}
use Rattle.cj_bench.proofs.summary.count_returned.Given as goal

abbrev pub invariant-loop-report : goal.invariant-loop-report
invariant-loop-report l =
    (l.count + length (returned (drop l.report-index l.reports)) ≡ length (returned l.fn.reports)) × (l.count ≤ l.report-index)
