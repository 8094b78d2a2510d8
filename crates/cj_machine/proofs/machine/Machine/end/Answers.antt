use Rattle.std.proofs.Common.{refl}
use Rattle.std.proofs.lemmas.List.{append-nil}
use Rattle.cj_machine.specs.Machines.{state_of}
use Rattle.cj_machine.specs.Versions.{counted}
use Rattle.cj_machine.proofs.machine.Machine.end.Goals as goal

pub returns-clause-same : goal.returns-clause-same
unfolding state_of counted
returns-clause-same c = rw (c.count.ensures, append-nil) refl
