use Rattle.std.proofs.Common.{◌≡◌, ◌+◌, ◌-◌}
use Rattle.cj_rows.specs.Rows.{guards_after}
use Rattle.cj_rows.proofs.rows.guards_after.Given as goal

abbrev pub invariant-loop-count : goal.invariant-loop-count
invariant-loop-count l = l.count + guards_after l.code (8 - l.count) l.at ≡ guards_after l.code 8 l.fn.label
