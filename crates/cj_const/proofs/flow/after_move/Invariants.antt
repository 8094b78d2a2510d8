use Rattle.std.proofs.Common.{◌≡◌, length, drop}
use Rattle.cj_const.specs.Knowledge.{known}
use Rattle.cj_const.specs.Flow.{after_move}
use Rattle.cj_const.proofs.flow.after_move.Given as goal

abbrev pub invariant-loop-pair : goal.invariant-loop-pair
invariant-loop-pair l = record {
  left : after_move (known l.row) (drop l.pair-index l.pairs) (known l.made) ≡ after_move (known l.row) l.pairs (known l.row);
  width : length l.made ≡ length l.row;
}
