use Rattle.std.proofs.Common.{◌≡◌, ◌∙◌, refl, ap, arith, IsSome}
use Rattle.std.proofs.lemmas.Grind.{common_steps}
use Rattle.cj_ir.specs.Values.{operand_value}
use Rattle.cj_base.specs.Machine.{cell, with_cell}
use Rattle.cj_activations.specs.Changes.{active_regs}
use Rattle.cj_machine.specs.Machines.{state_of, went_on}
use Rattle.cj_machine.specs.Versions.{counted, Continues}
use Rattle.cj_machine.proofs.Landing.{stored}
use Rattle.cj_machine.proofs.machine.Machine.store.Goals as goal

pub returns-then-set_cell-clause-made : goal.returns-then-set_cell-clause-made
unfolding state_of went_on counted
returns-then-set_cell-clause-made c =
    let set = c.set_cell.ensures.set c.if-set_cell.true in
    let old = c.args.self.now in
    let memory : c.set_cell.new.memory
    ≡ with_cell old.memory (operand_value (active_regs old.activations.top) c.args.address.now)
    (operand_value (active_regs old.activations.top) c.args.value.now) = grind (arith, common_steps) in
    let some : IsSome (cell old.memory (operand_value (active_regs old.activations.top) c.args.address.now)) = grind (arith, common_steps) in
    rw c.go_to.ensures.running (stored _ _ _ _ _ _ _ some (ap Continues c.go_to.ensures.made ∙ rw memory refl))
