use Rattle.std.proofs.Common.{◌≡◌, ℤ, List, ◌++◌, length}
use Rattle.cj_tokens.specs.Left.{left}
use Rattle.cj_reader.specs.Prescans.{numbers_at}
use Rattle.cj_reader.specs.Known.{ListsLines}
use Rattle.cj_reader.proofs.prescan.scan_lines.Given as goal

abbrev pub invariant-more : goal.invariant-more
invariant-more l = (done : List ℤ) × ListsLines done l.labels × (numbers_at (left l.fn.tokens) ≡ done ++ numbers_at (left l.tokens))

abbrev pub decreases-more : goal.decreases-more
decreases-more l = length (left l.tokens)
