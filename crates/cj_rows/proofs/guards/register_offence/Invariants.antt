use Rattle.std.proofs.Common.{◌≡◌, drop}
use Rattle.cj_rows.specs.Guards.{register_offence}
use Rattle.cj_rows.proofs.guards.register_offence.Given as goal

abbrev pub invariant-loop-guard : goal.invariant-loop-guard
invariant-loop-guard l = register_offence l.regs (drop l.guard-index l.guards) ≡ register_offence l.regs l.guards
