use Rattle.std.proofs.Common.{◌≡◌, take}
use Rattle.std.specs.Prelude.{All}
use Rattle.cj_draft.specs.Sound.{pair_of}
use Rattle.cj_rows.proofs.pairs.has_pair.Given as goal

abbrev pub invariant-loop-pair : goal.invariant-loop-pair
invariant-loop-pair l = All (λ pair. pair ≡ pair_of l.turns l.point → ⊥) (take l.pair-index l.backs)
