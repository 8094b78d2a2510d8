use Rattle.std.proofs.Common.{◌≡◌, ◌++◌, take}
use Rattle.cj_inline.proofs.seams.with_all.Given as goal

abbrev pub invariant-more : goal.invariant-more
invariant-more g l = l.list ≡ l.fn.list ++ take l.item-index l.more
