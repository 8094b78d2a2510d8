use Rattle.std.proofs.Common.{◌<◌}
use Rattle.std.specs.Prelude.{All}
use Rattle.cj_draft.specs.WellNamed.{ArePairsFine}
use Rattle.cj_test_passes.proofs.sparse.Numbers.pairs.Given as goal

abbrev pub invariant-loop-reg : goal.invariant-loop-reg
invariant-loop-reg l = record {
  fine : ArePairsFine 4 l.pairs;
  below : All (λ pair. pair.dest.0 < l.reg) l.pairs;
}
