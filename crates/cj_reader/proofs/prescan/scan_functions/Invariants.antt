use Rattle.std.proofs.Common.{◌≡◌, List, ◌++◌, length}
use Rattle.cj_tokens.specs.Left.{left}
use Rattle.cj_reader.specs.Scopes.{Head}
use Rattle.cj_reader.specs.Prescans.{heads_at}
use Rattle.cj_reader.specs.Known.{ListsFunctions}
use Rattle.cj_reader.proofs.prescan.scan_functions.Given as goal

abbrev pub invariant-more : goal.invariant-more
invariant-more l = (done : List Head) × ListsFunctions done l.functions × (heads_at (left l.fn.tokens) ≡ done ++ heads_at (left l.tokens))

abbrev pub decreases-more : goal.decreases-more
decreases-more l = length (left l.tokens)
