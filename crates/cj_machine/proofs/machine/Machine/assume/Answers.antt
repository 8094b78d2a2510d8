use Rattle.std.proofs.Common.{◌∙◌, sym, ap, Bool}
use Rattle.cj_draft.specs.declared.instructions.VInstr.TheVariants as version
use Rattle.cj_draft.specs.Effects.{version_effect, Guarded}
use Rattle.cj_activations.specs.Changes.{active_regs}
use Rattle.cj_machine.specs.Machines.{state_of}
use Rattle.cj_machine.specs.Stepping.{step_of}
use Rattle.cj_machine.proofs.Arriving.{version_passes_by, version_fails_by, version_needs}
use Rattle.cj_machine.proofs.machine.Machine.assume.Goals as goal

pub returns-then-guards_hold-clause-made : goal.returns-then-guards_hold-clause-made
unfolding version_effect state_of step_of
returns-then-guards_hold-clause-made c =
    let found = rw (c.top_registers.ensures, c.items.ensures) at c.guards_hold.ensures in
    let holds = ap (λ (b : Bool). Guarded b c.args.back c.args.target.now c.args.next) (sym found ∙ c.if-guards_hold.true) in
    λ args. rw (c.from.ensures, c.pass.ensures.running)
    (version_passes_by (version.Assume c.args.guards.now c.args.back c.args.target.now c.args.next) args _ _ c.args.back c.args.target.now c.args.next
    holds c.pass.ensures.made)

pub returns-in_ok-rebuild-clause-made : goal.returns-in_ok-rebuild-clause-made
unfolding version_effect state_of
returns-in_ok-rebuild-clause-made c =
    let found = rw (c.top_registers.ensures, c.items.ensures) at c.guards_hold.ensures in
    let fails = ap (λ (b : Bool). Guarded b c.args.back c.args.target.now c.args.next) (sym found ∙ c.if-guards_hold.false) in
    λ args. (version_fails_by (version.Assume c.args.guards.now c.args.back c.args.target.now c.args.next) args _ _ c.args.back c.args.target.now c.args.next
    fails c.in_ok-rebuild.ensures.made)

pub returns-in_err-rebuild-clause-only_then : goal.returns-in_err-rebuild-clause-only_then
unfolding version_effect
returns-in_err-rebuild-clause-only_then c =
    let old = c.args.self.now in
    let found = rw (c.top_registers.ensures, c.items.ensures) at c.guards_hold.ensures in
    (version_needs _ (version_effect (version.Assume c.args.guards.now c.args.back c.args.target.now c.args.next) (active_regs old.activations.top) old.memory)
    (sym found ∙ c.if-guards_hold.false))
