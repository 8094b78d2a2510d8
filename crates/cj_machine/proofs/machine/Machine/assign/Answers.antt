use Rattle.std.proofs.Common.{◌∙◌, refl}
use Rattle.cj_activations.specs.Changes.{active_regs}
use Rattle.cj_machine.specs.Machines.{state_of, went_on}
use Rattle.cj_machine.specs.Versions.{counted}
use Rattle.cj_machine.proofs.Assigning.{regs_set, moved_set}
use Rattle.cj_machine.proofs.machine.Machine.assign.Goals as goal

pub go_to-requires : goal.go_to-requires
unfolding state_of
go_to-requires c = record { turns = c.requires.early.turns; base_turns = c.requires.early.base_turns; fails = c.requires.early.fails }

pub returns-clause-made : goal.returns-clause-made
unfolding state_of went_on counted
returns-clause-made c =
    let regs = active_regs c.args.self.now.activations.top in
    let read = c.items-2.ensures ∙ rw c.top_registers.ensures at c.read_pairs.ensures in
    let written = rw c.items.ensures at (c.write_pairs.ensures regs (rw c.items.ensures read)) in
    c.go_to.ensures.made ∙ rw (written, regs_set, moved_set) refl
