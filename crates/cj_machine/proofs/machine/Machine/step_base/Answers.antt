use Rattle.std.proofs.Common.{◌≡◌, refl, ap, arith, [], ◌∷◌, to_z, of_z, w64}
use Rattle.std.proofs.lemmas.Grind.{common_steps}
use Rattle.cj_base.specs.Machine.{On, effect, op_effect, load_effect, store_effect}
use Rattle.cj_base.specs.declared.machine.Turned.TheVariants.{Running}
use Rattle.cj_ir.specs.Values.{operand_value}
use Rattle.cj_ir.specs.declared.language.Instr.TheVariants as base
use Rattle.cj_activations.specs.Changes.{active_regs}
use Rattle.cj_machine.specs.Marks.{base_marks, effect_marks}
use Rattle.cj_machine.specs.Machines.{state_of}
use Rattle.cj_machine.specs.Versions.{Continues}
use Rattle.cj_machine.specs.Stepping.{step_of}
use Rattle.cj_machine.proofs.Arriving.{base_by, base_branches, base_enters, base_returns, base_fails, base_needs}
use Rattle.cj_machine.proofs.machine.Machine.step_base.Goals as goal

pub returns-in-Nop-clause-made : goal.returns-in-Nop-clause-made
unfolding state_of step_of effect base_marks effect_marks
returns-in-Nop-clause-made c =
    let old = c.args.self.now in
    rw (c.in-Nop.is, c.from.ensures, c.go_to.ensures.running)
    (base_by (base.Nop c.in-Nop.next) _ _ _ Running (λ regs. On c.in-Nop.next regs old.memory []) (λ fr. refl) (λ fr. refl)
    (ap Continues c.go_to.ensures.made))

pub returns-in-Op-clause-made : goal.returns-in-Op-clause-made
unfolding state_of step_of effect base_marks effect_marks
returns-in-Op-clause-made c =
    let old = c.args.self.now in
    rw (c.in-Op.is, c.from-in-Op.ensures)
    (base_by (base.Op c.in-Op.dest c.in-Op.expr c.in-Op.next) _ _ _ c.operate.result
    (λ regs. op_effect c.in-Op.dest c.in-Op.expr c.in-Op.next regs old.memory) (λ fr. refl) (λ fr. refl) c.operate.ensures.made)

pub returns-in_ok-print-in-Print-clause-made : goal.returns-in_ok-print-in-Print-clause-made
unfolding state_of step_of effect base_marks effect_marks
returns-in_ok-print-in-Print-clause-made c =
    let old = c.args.self.now in
    rw (c.in-Print.is, c.from-in-Print.ensures, c.in_ok-print-in-Print.ensures.running)
    (base_by (base.Print c.in-Print.value c.in-Print.next) _ _ _ Running
    (λ regs. On c.in-Print.next regs old.memory (operand_value regs c.in-Print.value ∷ [])) (λ fr. refl) (λ fr. refl)
    (ap Continues c.in_ok-print-in-Print.ensures.made))

pub returns-in-Load-clause-made : goal.returns-in-Load-clause-made
unfolding state_of step_of effect base_marks effect_marks
returns-in-Load-clause-made c =
    let old = c.args.self.now in
    rw (c.in-Load.is, c.from-in-Load.ensures)
    (base_by (base.Load c.in-Load.dest c.in-Load.address c.in-Load.next) _ _ _ c.load.result
    (λ regs. load_effect c.in-Load.dest (operand_value regs c.in-Load.address) c.in-Load.next regs old.memory) (λ fr. refl)
    (λ fr. refl) c.load.ensures.made)

pub returns-in-Store-clause-made : goal.returns-in-Store-clause-made
unfolding state_of step_of effect base_marks effect_marks
returns-in-Store-clause-made c =
    let old = c.args.self.now in
    rw (c.in-Store.is, c.from-in-Store.ensures)
    (base_by (base.Store c.in-Store.address c.in-Store.value c.in-Store.next) _ _ _ c.store.result
    (λ regs. store_effect (operand_value regs c.in-Store.address) (operand_value regs c.in-Store.value) c.in-Store.next regs old.memory) (λ fr. refl)
    (λ fr. refl) c.store.ensures.made)

pub returns-in_ok-call-in-Call-clause-made : goal.returns-in_ok-call-in-Call-clause-made
unfolding state_of
returns-in_ok-call-in-Call-clause-made c =
    let called = c.in_ok-call-in-Call.ensures in
    rw (c.in-Call.is, called.enters) (base_enters c.in-Call.dest c.in-Call.function c.in-Call.args c.in-Call.next _ (state_of c.args.self.now) called.read)

pub returns-in-Return-clause-made : goal.returns-in-Return-clause-made
unfolding state_of
returns-in-Return-clause-made c =
    let old = c.args.self.now in
    let is : to_z w64 (of_z w64 c.value.result) ≡ operand_value (active_regs old.activations.top) c.in-Return.value = grind (arith, common_steps) in
    rw c.in-Return.is (base_returns c.in-Return.value _ _ (state_of old) is)

pub returns-in-Cond-clause-made : goal.returns-in-Cond-clause-made
unfolding state_of
returns-in-Cond-clause-made c =
    let old = c.args.self.now in
    rw (c.in-Cond.is, c.branch-self.ensures.edge) (base_branches c.in-Cond.test c.in-Cond.then_to c.in-Cond.else_to _ _ _ c.branch-self.ensures.gone)

pub returns-in-Fail-clause-made : goal.returns-in-Fail-clause-made
unfolding state_of step_of
returns-in-Fail-clause-made c =
    let old = c.args.self.now in
    rw (c.in-Fail.is, c.from-in-Fail.ensures, c.end.ensures.ended)
    (base_fails c.in-Fail.text c.args.function c.args.label _ _ _ c.requires.position c.end.ensures.same)

pub returns-in_err-call-in-Call-clause-only_then : goal.returns-in_err-call-in-Call-clause-only_then
unfolding effect
returns-in_err-call-in-Call-clause-only_then c =
    let old = c.args.self.now in
    rw c.in-Call.is (base_needs _ (base.Call c.in-Call.dest c.in-Call.function c.in-Call.args c.in-Call.next) _ old.memory (λ fr. tt))

pub returns-in_err-print-in-Print-clause-only_then : goal.returns-in_err-print-in-Print-clause-only_then
unfolding effect
returns-in_err-print-in-Print-clause-only_then c =
    let old = c.args.self.now in
    rw c.in-Print.is (base_needs _ (base.Print c.in-Print.value c.in-Print.next) _ old.memory (λ fr. tt))
