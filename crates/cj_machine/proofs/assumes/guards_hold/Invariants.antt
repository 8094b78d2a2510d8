use Rattle.std.proofs.Common.{◌≡◌, drop}
use Rattle.cj_draft.specs.Effects.{guards_hold}
use Rattle.cj_machine.proofs.assumes.guards_hold.Given as goal

abbrev pub invariant-loop-guard : goal.invariant-loop-guard
invariant-loop-guard l = guards_hold l.regs (drop l.guard-index l.guards) ≡ guards_hold l.regs l.guards
