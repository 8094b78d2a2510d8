use Rattle.std.proofs.Common.{◌++◌, replicate}
use Rattle.cj_roles.specs.declared.role.Role.TheVariants.{Worker}
use Rattle.cj_roles.specs.Roles.{callers_to}
use Rattle.cj_roles.specs.Dealt.{HasDealt}
use Rattle.cj_roles.proofs.dealing.deal.Given as goal

abbrev pub invariant-loop-first : goal.invariant-loop-first
invariant-loop-first l = HasDealt l.fn.store (callers_to l.callers l.first) l.slots.items l.store

abbrev pub invariant-loop-worker : goal.invariant-loop-worker
invariant-loop-worker l = HasDealt l.fn.store (callers_to l.callers l.callers ++ replicate l._worker (Worker l.callers)) l.slots.items l.store
