use Rattle.std.proofs.Common.{◌≡◌, ◌+◌, ◌-◌, ◌∙◌, Some, ℕ, sym, ap, arith, eq-eqb}
use Rattle.std.proofs.lemmas.Bool.{ne_eqb}
use Rattle.cj_rows.specs.Rows.{steps_to}
use Rattle.cj_rows.proofs.GuardRows.{further_none, further_some, further_same, steps_here, steps_none, steps_end, steps_step}
use Rattle.cj_rows.proofs.rows.steps_to.Goals as goal

pub loop-count-init : goal.loop-count-init
loop-count-init c = further_same (steps_to c.args.code.now c.args.label 8 c.args.from)

pub returns-then-at-label : goal.returns-then-at-label
returns-then-at-label c =
    let n = c.loop-count.count in
    let zero_more : n + 0 ≡ n = omega arith in
    sym (ap (λ (k : ℕ). Some k) zero_more)
    ∙ sym (further_some n 0 (steps_to c.args.code.now c.args.label (8 - n) c.loop-count.at)
    (steps_here c.args.code.now c.args.label (8 - n) c.loop-count.at (eq-eqb c.loop-count.at.0 c.args.label.0 c.if-at-label.true)))
    ∙ c.loop-count.invariant

pub returns-in-None : goal.returns-in-None
returns-in-None c =
    let n = c.loop-count.count in
    sym (further_none n (steps_to c.args.code.now c.args.label (8 - n) c.loop-count.at)
    (steps_none c.args.code.now c.args.label (8 - n) c.loop-count.at (ne_eqb c.loop-count.at.0 c.args.label.0 c.if-at-label.false)
    (sym c.guard_at.ensures ∙ c.in-None.is)))
    ∙ c.loop-count.invariant

pub loop-count-preserved : goal.loop-count-preserved
loop-count-preserved c =
    steps_step c.args.code.now c.args.label c.loop-count.count (steps_to c.args.code.now c.args.label 8 c.args.from) c.loop-count.at c.in-Some.next
    c.loop-count-test.true (ne_eqb c.loop-count.at.0 c.args.label.0 c.if-at-label.false) (sym c.guard_at.ensures ∙ c.in-Some.is) c.loop-count.invariant

pub returns-then-at-label-2 : goal.returns-then-at-label-2
returns-then-at-label-2 c =
    let n = c.loop-count.count in
    let all : n + 0 ≡ 8 = omega arith in
    sym (ap (λ (k : ℕ). Some k) all)
    ∙ sym (further_some n 0 (steps_to c.args.code.now c.args.label (8 - n) c.loop-count.at)
    (steps_here c.args.code.now c.args.label (8 - n) c.loop-count.at (eq-eqb c.loop-count.at.0 c.args.label.0 c.if-at-label-2.true)))
    ∙ c.loop-count.invariant

pub returns-else-at-label-2 : goal.returns-else-at-label-2
returns-else-at-label-2 c =
    let n = c.loop-count.count in
    let none_left : 8 - n ≡ 0 = omega arith in
    let ends = ap (λ (k : ℕ). steps_to c.args.code.now c.args.label k c.loop-count.at) none_left
    ∙ steps_end c.args.code.now c.args.label c.loop-count.at (ne_eqb c.loop-count.at.0 c.args.label.0 c.if-at-label-2.false) in
    sym (further_none n (steps_to c.args.code.now c.args.label (8 - n) c.loop-count.at) ends) ∙ c.loop-count.invariant
