use Rattle.std.proofs.Common.{◌≡◌, ◌+◌, ◌*◌, ◌^◌, ◌≤◌, drop}
use Rattle.cj_bench.specs.Summary.{print_count}
use Rattle.cj_bench.proofs.summary.count_prints.Given as goal

abbrev pub invariant-loop-report : goal.invariant-loop-report
invariant-loop-report l =
    (l.count + print_count (drop l.report-index l.reports) ≡ print_count l.fn.reports) × (l.count ≤ l.report-index * 2 ^ 64)
