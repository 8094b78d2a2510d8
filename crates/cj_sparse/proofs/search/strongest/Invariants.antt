use Rattle.cj_sparse.specs.Losses.{IsSearch, work_left}
use Rattle.cj_sparse.proofs.search.strongest.Given as goal

abbrev pub invariant-loop-search : goal.invariant-loop-search
invariant-loop-search l = IsSearch l.draft.context l.draft.code l.search.rows.items l.search.work.items

abbrev pub decreases-loop-search : goal.decreases-loop-search
decreases-loop-search l = work_left l.draft.code.regs l.search.rows.items l.search.work.items
