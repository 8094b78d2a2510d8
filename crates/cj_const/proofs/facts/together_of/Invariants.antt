use Rattle.std.proofs.Common.{◌≡◌, false}
use Rattle.cj_const.specs.Knowledge.{known}
use Rattle.cj_const.specs.Folding.{facts_below, both, clash}
use Rattle.cj_const.proofs.facts.together_of.Given as goal

abbrev pub invariant-loop-reg : goal.invariant-loop-reg
invariant-loop-reg l = record {
  clear : clash (known l.one) (known l.other) l.reg ≡ false;
  facts : l.facts ≡ facts_below (both (known l.one) (known l.other)) l.reg;
}
