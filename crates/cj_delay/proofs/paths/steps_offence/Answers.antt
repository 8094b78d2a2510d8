use Rattle.std.proofs.Common.{◌-◌, ◌∙◌, length, sym}
use Rattle.cj_delay.specs.DelayedAssume.{steps_offence}
use Rattle.cj_delay.proofs.PathSteps.{steps_on, steps_found, steps_done}
use Rattle.cj_delay.proofs.paths.steps_offence.Goals as goal

pub returns : goal.returns
returns c =
    let whole = steps_offence c.args.program.now c.args.code.now c.args.path.now (length c.args.path.now - 1) 1 in
    steps_done c.args.program.now c.args.code.now c.args.path.now c.loop-at.at whole c.loop-at-test.false c.loop-at.invariant

pub returns-in-Some : goal.returns-in-Some
returns-in-Some c =
    let whole = steps_offence c.args.program.now c.args.code.now c.args.path.now (length c.args.path.now - 1) 1 in
    steps_found c.args.program.now c.args.code.now c.args.path.now c.loop-at.at c.in-Some.skipped whole c.loop-at-test.true (sym c.step_offence.ensures
    ∙ c.in-Some.is) c.loop-at.invariant

pub loop-at-preserved : goal.loop-at-preserved
loop-at-preserved c =
    let whole = steps_offence c.args.program.now c.args.code.now c.args.path.now (length c.args.path.now - 1) 1 in
    steps_on c.args.program.now c.args.code.now c.args.path.now c.loop-at.at whole c.loop-at-test.true (sym c.step_offence.ensures
    ∙ c.in_default.is) c.loop-at.invariant
