use Rattle.std.proofs.Common.{refl}
use Rattle.std.proofs.lemmas.List.{append-nil}
use Rattle.cj_machine.specs.Machines.{state_of, went_on}
use Rattle.cj_machine.specs.Versions.{counted}
use Rattle.cj_machine.proofs.Landing.{labelled}
use Rattle.cj_machine.proofs.machine.Machine.go_to.Goals as goal

pub returns-clause-made : goal.returns-clause-made
unfolding state_of went_on counted
returns-clause-made c = rw (c.count.ensures, c.go_to.ensures, labelled, append-nil) refl
