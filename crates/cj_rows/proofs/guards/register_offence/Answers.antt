use Rattle.std.proofs.Common.{◌∙◌, sym, arith}
use Rattle.std.specs.Prelude.{pos}
use Rattle.cj_ir.specs.declared.language.Guard.{Guard}
use Rattle.cj_ir.specs.declared.language.Guard.TheVariants.{Is}
use Rattle.cj_rows.proofs.GuardConditions.{offence_found, offence_past, offence_none}
use Rattle.cj_rows.proofs.guards.register_offence.Goals as goal

none : Guard
none = Is (record { 0 = 0 }) (pos 0)

pub returns-in-Some : goal.returns-in-Some
unfolding none
returns-in-Some c =
    offence_found c.args.regs c.args.guards.now c.loop-guard.guard-index none c.in-Some.skipped c.loop-guard-test.true c.loop-guard.invariant
    (sym c.guard_offence.ensures ∙ c.in-Some.is)

pub loop-guard-preserved : goal.loop-guard-preserved
unfolding none
loop-guard-preserved c =
    offence_past c.args.regs c.args.guards.now c.loop-guard.guard-index none c.loop-guard-test.true c.loop-guard.invariant (sym c.guard_offence.ensures
    ∙ c.in_default.is)

pub returns : goal.returns
returns c = offence_none c.args.regs c.args.guards.now c.loop-guard.guard-index (omega arith) c.loop-guard.invariant
