use Rattle.std.proofs.Common.{◌-◌, ◌∙◌, sym, arith}
use Rattle.cj_rows.specs.Rows.{guards_after}
use Rattle.cj_rows.proofs.GuardRows.{after_none, after_step, after_few}
use Rattle.cj_rows.proofs.rows.guards_after.Goals as goal

pub returns-in-None-clause-count : goal.returns-in-None-clause-count
returns-in-None-clause-count c =
    omega (arith, after_none c.args.code.now (8 - c.loop-count.count) c.loop-count.at (sym c.guard_at.ensures ∙ c.in-None.is), c.loop-count.invariant)

pub loop-count-preserved : goal.loop-count-preserved
loop-count-preserved c =
    after_step c.args.code.now c.loop-count.count (guards_after c.args.code.now 8 c.args.label) c.loop-count.at c.in-Some.next c.loop-count-test.true
    (sym c.guard_at.ensures ∙ c.in-Some.is) c.loop-count.invariant

pub returns-clause-count : goal.returns-clause-count
returns-clause-count c =
    omega (arith, c.loop-count.invariant, after_few c.args.code.now (8 - c.loop-count.count) c.loop-count.at)
