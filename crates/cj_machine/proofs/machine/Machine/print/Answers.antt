use Rattle.std.proofs.Common.{◌≡◌, ◌∙◌, ◌++◌, ◌∷◌, [], arith, ℤ, List}
use Rattle.std.proofs.lemmas.Grind.{common_steps}
use Rattle.cj_ir.specs.Values.{operand_value}
use Rattle.cj_activations.specs.Changes.{active_regs}
use Rattle.cj_machine.specs.Machines.{state_of}
use Rattle.cj_machine.proofs.Landing.{printed_more}
use Rattle.cj_machine.proofs.machine.Machine.print.Goals as goal

pub returns-clause-made : goal.returns-clause-made
unfolding state_of
returns-clause-made c =
    let old = c.args.self.now in
    let regs : List ℤ = active_regs old.activations.top in
    let value : ℤ = operand_value regs c.args.value.now in
    let more : c.push.new.self ≡ old.printed ++ operand_value (active_regs old.activations.top) c.args.value.now ∷ [] = grind (arith, common_steps) in
    c.go_to.ensures.made ∙ printed_more (state_of old) c.push.new.self c.args.next regs old.memory value more
