use Rattle.std.proofs.Common.{◌≡◌, drop}
use Rattle.cj_sparse.specs.Holding.{asked}
use Rattle.cj_sparse.proofs.guards.asked.Given as goal

abbrev pub invariant-loop-guard : goal.invariant-loop-guard
invariant-loop-guard l = asked (drop l.guard-index l.guards) l.reg.0 ≡ asked l.guards l.reg.0
