use Rattle.std.proofs.Common.{◌≡◌}
use Rattle.cj_const.specs.Knowledge.{told_by, row_below}
use Rattle.cj_const.proofs.knowledge.row_of.Given as goal

abbrev pub invariant-loop-reg : goal.invariant-loop-reg
invariant-loop-reg l = l.row ≡ row_below (told_by l.facts) l.reg
