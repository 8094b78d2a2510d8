use Rattle.std.proofs.Common.{◌≡◌, suc, ◌+◌, ◌∙◌, ◌++◌, ◌∷◌, [], List, Option, length, ap, ap₂, subst, arith}
use Rattle.std.specs.Prelude.{ℤ}
use Rattle.cj_const.specs.Knowledge.{Knowledge, told_by, known, row_below}
use Rattle.cj_const.proofs.Rows.{length-row_below, known-row_below}
use Rattle.cj_const.proofs.knowledge.row_of.Goals as goal

pub loop-reg-init : goal.loop-reg-init
unfolding row_below
loop-reg-init c = c.new-row.ensures

pub loop-reg-preserved : goal.loop-reg-preserved
unfolding row_below
loop-reg-preserved c =
    let k : Knowledge = told_by c.args.facts.now in
    let e : suc c.loop-reg.reg ≡ c.loop-reg.reg + 1 = omega arith in
    subst (λ n. c.push.new.self ≡ row_below k n) e
    (c.in_ok-push.ensures.ok ∙ ap₂ (λ (row : List (Option ℤ)) (x : Option ℤ). row ++ x ∷ []) c.loop-reg.invariant c.told_by.ensures)

pub returns-clause-told : goal.returns-clause-told
returns-clause-told c = ap known c.loop-reg.invariant ∙ ap (λ n. known (row_below (told_by c.args.facts.now) n)) (omega arith)
    ∙ known-row_below c.args.facts.now c.args.regs c.requires

pub returns-clause-width : goal.returns-clause-width
returns-clause-width c = ap length c.loop-reg.invariant ∙ length-row_below (told_by c.args.facts.now) c.loop-reg.reg ∙ omega arith
