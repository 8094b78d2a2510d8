use Rattle.std.proofs.Common.{◌≡◌, ◌++◌, ◌+◌, drop}
use Rattle.cj_calls.specs.Output.{texts_from, reports_text}
use Rattle.cj_calls.proofs.text.text_of.Given as goal

abbrev pub invariant-loop-place : goal.invariant-loop-place
invariant-loop-place l =
    l.text.items ++ texts_from l.checked l.stats (l.place + 1) (drop l.place l.report-items)
    ≡ reports_text l.checked l.reports l.stats
