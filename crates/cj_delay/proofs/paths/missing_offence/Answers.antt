use Rattle.std.proofs.Common.{◌<◌, ◌≤◌, ℕ, length, get_or, ap, subst}
use Rattle.cj_ir.specs.declared.language.Label.{Label}
use Rattle.cj_delay.proofs.MissingLabels.{missing_found, missing_past, missing_none}
use Rattle.cj_delay.proofs.paths.missing_offence.Goals as goal

first : Label
first = record { 0 = 0 }

pub returns-then-label-count : goal.returns-then-label-count
unfolding first
returns-then-label-count c =
    missing_found c.args.code.now c.args.labels.now c.loop-label.label-index first c.loop-label-test.true c.loop-label.invariant
    (subst (λ (n : ℕ). n ≤ (get_or c.args.labels.now c.loop-label.label-index first).0) (ap length c.items-count.ensures) c.if-label-count.true)

pub loop-label-preserved : goal.loop-label-preserved
unfolding first
loop-label-preserved c =
    missing_past c.args.code.now c.args.labels.now c.loop-label.label-index first c.loop-label-test.true c.loop-label.invariant
    (subst (λ (n : ℕ). (get_or c.args.labels.now c.loop-label.label-index first).0 < n) (ap length c.items-count.ensures) c.if-label-count.false)

pub returns : goal.returns
returns c = missing_none c.args.code.now c.args.labels.now c.loop-label.label-index c.loop-label-test.false c.loop-label.invariant
