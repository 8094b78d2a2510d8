use Rattle.cj_roles.specs.Joined.{IsJoining}
use Rattle.cj_roles.proofs.joining.join_all.Given as goal

abbrev pub invariant-loop-slot : goal.invariant-loop-slot
invariant-loop-slot l = IsJoining l.yielded l.fn.warm l.fn.store l.answers l.store
