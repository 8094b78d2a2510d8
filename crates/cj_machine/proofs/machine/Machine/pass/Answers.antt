use Rattle.std.proofs.Common.{refl}
use Rattle.cj_machine.specs.Machines.{state_of}
use Rattle.cj_machine.specs.Versions.{passed}
use Rattle.cj_machine.proofs.Landing.{passes}
use Rattle.cj_machine.proofs.machine.Machine.pass.Goals as goal

pub returns-clause-made : goal.returns-clause-made
unfolding state_of passed
returns-clause-made c = λ v top. rw (c.go_to.ensures, passes _ _ v top) refl
