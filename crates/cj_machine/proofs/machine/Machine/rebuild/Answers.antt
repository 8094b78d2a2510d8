use Rattle.std.proofs.Common.{refl}
use Rattle.cj_machine.specs.Machines.{state_of}
use Rattle.cj_activations.specs.Changes.{rebuilt as frames_rebuilt}
use Rattle.cj_machine.specs.Versions.{rebuilt}
use Rattle.cj_machine.proofs.machine.Machine.rebuild.Goals as goal

pub returns-clause-made : goal.returns-clause-made
unfolding state_of rebuilt frames_rebuilt
returns-clause-made c = λ P.
    let frames = c.in_ok-top.ensures P in
    rw (← c.top_registers.ensures, ← frames, c.in_ok-take_place.ensures.notes, c.in_ok-take_place.ensures.activations, c.from.ensures) refl
