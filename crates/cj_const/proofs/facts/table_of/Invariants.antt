use Rattle.std.proofs.Common.{◌≡◌, map, take}
use Rattle.cj_const.specs.Search.{facts_in}
use Rattle.cj_const.proofs.facts.table_of.Given as goal

abbrev pub invariant-loop-row : goal.invariant-loop-row
invariant-loop-row l = l.table ≡ map (facts_in l.regs) (take l.row-index l.rows)
