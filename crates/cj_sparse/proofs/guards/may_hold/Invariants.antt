use Rattle.cj_const.specs.Knowledge.{known}
use Rattle.cj_sparse.proofs.Holding.{IsHeld}
use Rattle.cj_sparse.proofs.guards.may_hold.Given as goal

abbrev pub invariant-loop-at : goal.invariant-loop-at
invariant-loop-at l = IsHeld (known l.row) l.guards l.at
