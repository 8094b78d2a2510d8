use Rattle.std.proofs.Common.{◌≡◌, ◌≤◌, ◌-◌, length, drop}
use Rattle.cj_tokens.specs.Scan.{items}
use Rattle.cj_tokens.proofs.scan.skip.Given as goal

abbrev pub invariant-more : goal.invariant-more
invariant-more l = (l.at ≤ length l.bytes) × (items 0 l.fn.line l.fn.from (drop l.fn.from l.bytes) ≡ items 0 l.line l.at (drop l.at l.bytes))

abbrev pub decreases-more : goal.decreases-more
decreases-more l = length l.bytes - l.at
