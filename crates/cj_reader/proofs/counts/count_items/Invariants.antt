use Rattle.std.proofs.Common.{◌≡◌, ◌+◌, length}
use Rattle.cj_tokens.specs.Left.{left}
use Rattle.cj_reader.specs.Prescans.{count_at}
use Rattle.cj_reader.proofs.counts.count_items.Given as goal

abbrev pub invariant-more : goal.invariant-more
invariant-more l = count_at (left l.fn.tokens) ≡ l.count + count_at (left l.tokens)

abbrev pub decreases-more : goal.decreases-more
decreases-more l = length (left l.tokens)
