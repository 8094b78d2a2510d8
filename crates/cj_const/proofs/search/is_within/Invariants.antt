use Rattle.std.proofs.Common.{◌≡◌, drop}
use Rattle.cj_const.specs.Search.{is_within}
use Rattle.cj_const.proofs.search.is_within.Given as goal

abbrev pub invariant-loop-reg : goal.invariant-loop-reg
invariant-loop-reg l = is_within (drop l.reg l.row) (drop l.reg l.others) ≡ is_within l.row l.others
