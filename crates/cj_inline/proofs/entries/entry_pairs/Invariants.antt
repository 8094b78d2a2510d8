use Rattle.std.proofs.Common.{◌≡◌, ◌+◌, ◌-◌, ◌++◌, drop}
use Rattle.cj_draft.specs.Inlining.{entry_pairs}
use Rattle.cj_inline.proofs.entries.entry_pairs.Given as goal

abbrev pub invariant-loop-index : goal.invariant-loop-index
invariant-loop-index l =
    l.pairs ++ entry_pairs (l.first + l.index) (drop l.index l.args) (l.count - l.index) ≡ entry_pairs l.first l.args l.count
