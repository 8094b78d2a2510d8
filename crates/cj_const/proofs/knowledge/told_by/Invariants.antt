use Rattle.std.proofs.Common.{◌≡◌, drop}
use Rattle.cj_const.specs.Knowledge.{told_by}
use Rattle.cj_const.proofs.knowledge.told_by.Given as goal

abbrev pub invariant-loop-fact : goal.invariant-loop-fact
invariant-loop-fact l = told_by (drop l.fact-index l.facts) l.reg.0 ≡ told_by l.facts l.reg.0
