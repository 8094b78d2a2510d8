use Rattle.std.proofs.Common.{◌≡◌, refl, ap, arith, [], ◌∷◌, to_z, of_z, w64}
use Rattle.std.proofs.lemmas.Grind.{common_steps}
use Rattle.cj_base.specs.declared.machine.End.TheVariants.{Failed}
use Rattle.cj_base.specs.Machine.{Faults, FailedAt, end_of, On, op_effect, load_effect, store_effect, branch}
use Rattle.cj_base.specs.declared.machine.Turned.TheVariants.{Running, Ended}
use Rattle.cj_ir.specs.Values.{operand_value}
use Rattle.cj_draft.specs.declared.instructions.VInstr.TheVariants as version
use Rattle.cj_draft.specs.Effects.{version_effect, moved}
use Rattle.cj_activations.specs.Changes.{active_regs}
use Rattle.cj_machine.specs.Machines.{state_of}
use Rattle.cj_machine.specs.Versions.{Continues, Finishes}
use Rattle.cj_machine.specs.Stepping.{step_of}
use Rattle.cj_machine.proofs.Arriving.{version_by, version_enters, version_returns, version_passes_by, version_needs}
use Rattle.cj_machine.proofs.machine.Machine.step_version.Goals as goal

pub returns-in-Nop-clause-made : goal.returns-in-Nop-clause-made
unfolding state_of step_of version_effect
returns-in-Nop-clause-made c =
    let old = c.args.self.now in
    rw (c.in-Nop.is, c.from.ensures, c.go_to.ensures.running)
    (version_by (version.Nop c.in-Nop.next) _ _ _ Running (λ regs. On c.in-Nop.next regs old.memory []) (λ regs. refl) (ap Continues c.go_to.ensures.made))

pub returns-in-Op-clause-made : goal.returns-in-Op-clause-made
unfolding state_of step_of version_effect
returns-in-Op-clause-made c =
    let old = c.args.self.now in
    rw (c.in-Op.is, c.from-in-Op.ensures)
    (version_by (version.Op c.in-Op.dest c.in-Op.expr c.in-Op.next) _ _ _ c.operate.result
    (λ regs. op_effect c.in-Op.dest c.in-Op.expr c.in-Op.next regs old.memory) (λ regs. refl) c.operate.ensures.made)

pub returns-in_ok-print-in-Print-clause-made : goal.returns-in_ok-print-in-Print-clause-made
unfolding state_of step_of version_effect
returns-in_ok-print-in-Print-clause-made c =
    let old = c.args.self.now in
    rw (c.in-Print.is, c.from-in-Print.ensures, c.in_ok-print-in-Print.ensures.running)
    (version_by (version.Print c.in-Print.value c.in-Print.next) _ _ _ Running
    (λ regs. On c.in-Print.next regs old.memory (operand_value regs c.in-Print.value ∷ [])) (λ regs. refl)
    (ap Continues c.in_ok-print-in-Print.ensures.made))

pub returns-in-Load-clause-made : goal.returns-in-Load-clause-made
unfolding state_of step_of version_effect
returns-in-Load-clause-made c =
    let old = c.args.self.now in
    rw (c.in-Load.is, c.from-in-Load.ensures)
    (version_by (version.Load c.in-Load.dest c.in-Load.address c.in-Load.next) _ _ _ c.load.result
    (λ regs. load_effect c.in-Load.dest (operand_value regs c.in-Load.address) c.in-Load.next regs old.memory) (λ regs. refl) c.load.ensures.made)

pub returns-in-Store-clause-made : goal.returns-in-Store-clause-made
unfolding state_of step_of version_effect
returns-in-Store-clause-made c =
    let old = c.args.self.now in
    rw (c.in-Store.is, c.from-in-Store.ensures)
    (version_by (version.Store c.in-Store.address c.in-Store.value c.in-Store.next) _ _ _ c.store.result
    (λ regs. store_effect (operand_value regs c.in-Store.address) (operand_value regs c.in-Store.value) c.in-Store.next regs old.memory)
    (λ regs. refl) c.store.ensures.made)

pub returns-in_ok-call-in-Call-clause-made : goal.returns-in_ok-call-in-Call-clause-made
unfolding state_of
returns-in_ok-call-in-Call-clause-made c =
    let called = c.in_ok-call-in-Call.ensures in
    rw (c.in-Call.is, called.enters) (version_enters c.in-Call.dest c.in-Call.function c.in-Call.args c.in-Call.next _ (state_of c.args.self.now) called.read)

pub returns-in-Return-clause-made : goal.returns-in-Return-clause-made
unfolding state_of
returns-in-Return-clause-made c =
    let old = c.args.self.now in
    let is : to_z w64 (of_z w64 c.value.result) ≡ operand_value (active_regs old.activations.top) c.in-Return.value = grind (arith, common_steps) in
    rw c.in-Return.is (version_returns c.in-Return.value _ _ (state_of old) is)

pub returns-in-Cond-clause-made : goal.returns-in-Cond-clause-made
unfolding state_of step_of version_effect
returns-in-Cond-clause-made c =
    let old = c.args.self.now in
    rw c.in-Cond.is (version_by (version.Cond c.in-Cond.test c.in-Cond.then_to c.in-Cond.else_to) _ _ _ Running
    (λ regs. On (branch (operand_value regs c.in-Cond.test) c.in-Cond.then_to c.in-Cond.else_to) regs old.memory []) (λ regs. refl)
    (ap Continues c.branch-edge.ensures.gone))

pub returns-in-Move-clause-made : goal.returns-in-Move-clause-made
unfolding state_of step_of version_effect
returns-in-Move-clause-made c =
    let old = c.args.self.now in
    rw (c.in-Move.is, c.from-in-Move.ensures, c.assign.ensures.running)
    (version_by (version.Move c.in-Move.pairs c.in-Move.next) _ _ _ Running (λ regs. On c.in-Move.next (moved regs c.in-Move.pairs regs) old.memory [])
    (λ regs. refl) (ap Continues c.assign.ensures.made))

pub returns-in_err-call-in-Call-clause-only_then : goal.returns-in_err-call-in-Call-clause-only_then
unfolding version_effect
returns-in_err-call-in-Call-clause-only_then c =
    let old = c.args.self.now in
    rw c.in-Call.is (version_needs _
    (version_effect (version.Call c.in-Call.dest c.in-Call.function c.in-Call.args c.in-Call.next) (active_regs old.activations.top) old.memory) tt)

pub returns-in_err-print-in-Print-clause-only_then : goal.returns-in_err-print-in-Print-clause-only_then
unfolding version_effect
returns-in_err-print-in-Print-clause-only_then c =
    let old = c.args.self.now in
    rw c.in-Print.is (version_needs _ (version_effect (version.Print c.in-Print.value c.in-Print.next) (active_regs old.activations.top) old.memory) tt)

pub returns-in-Fail-clause-made : goal.returns-in-Fail-clause-made
unfolding state_of step_of version_effect end_of
returns-in-Fail-clause-made c =
    let old = c.args.self.now in
    rw (c.in-Fail.is, c.from-in-Fail.ensures, c.end.ensures.ended)
    (version_by (version.Fail c.in-Fail.function c.in-Fail.label) _ _ _ (Ended (Failed c.in-Fail.function c.in-Fail.label))
    (λ regs. Faults (FailedAt c.in-Fail.function c.in-Fail.label)) (λ regs. refl)
    (ap (Finishes (Failed c.in-Fail.function c.in-Fail.label)) c.end.ensures.same))

pub returns-in-Anchor-clause-made : goal.returns-in-Anchor-clause-made
unfolding version_effect state_of step_of
returns-in-Anchor-clause-made c =
    rw (c.in-Anchor.is, c.from-in-Anchor.ensures, c.pass.ensures.running)
    (version_passes_by (version.Anchor c.in-Anchor.back c.in-Anchor.target c.in-Anchor.next) _ _ _ c.in-Anchor.back c.in-Anchor.target c.in-Anchor.next
    refl c.pass.ensures.made)

pub returns-in_ok-assume-in-Assume-clause-made : goal.returns-in_ok-assume-in-Assume-clause-made
unfolding state_of
returns-in_ok-assume-in-Assume-clause-made c = rw c.in-Assume.is (c.in_ok-assume-in-Assume.ensures.made _)

pub returns-in_err-assume-in-Assume-clause-only_then : goal.returns-in_err-assume-in-Assume-clause-only_then
returns-in_err-assume-in-Assume-clause-only_then c =
    rw c.in-Assume.is (version_needs _ _ c.in_err-assume-in-Assume.ensures.only_then)
