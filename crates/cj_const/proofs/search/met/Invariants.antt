use Rattle.std.proofs.Common.{◌≡◌, ◌++◌, drop}
use Rattle.cj_const.specs.Search.{met}
use Rattle.cj_const.proofs.search.met.Given as goal

abbrev pub invariant-loop-reg : goal.invariant-loop-reg
invariant-loop-reg l = l.made ++ met (drop l.reg l.row) (drop l.reg l.others) ≡ met l.row l.others
