use Rattle.std.proofs.Common.{◌≡◌}
use Rattle.cj_const.specs.Knowledge.{known}
use Rattle.cj_const.specs.Folding.{facts_below}
use Rattle.cj_const.proofs.facts.facts_of.Given as goal

abbrev pub invariant-loop-reg : goal.invariant-loop-reg
invariant-loop-reg l = l.facts ≡ facts_below (known l.row) l.reg
