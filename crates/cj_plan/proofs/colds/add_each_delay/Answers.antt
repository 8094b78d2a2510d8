use Rattle.std.proofs.Common.{ℕ, List, ◌++◌, take, get_or, sym, ap, ◌∙◌, append_assoc}
use Rattle.cj_draft.specs.declared.passes.Pass.{Pass}
use Rattle.cj_plan.specs.declared.colds.Cold.{Cold}
use Rattle.cj_plan.specs.Plan.{each_from, delay_of}
use Rattle.cj_plan.proofs.Each.{each_more}
use Rattle.cj_plan.proofs.colds.add_each_delay.Goals as goal

pub loop-number-preserved : goal.loop-number-preserved
loop-number-preserved c =
    let colds = c.args.colds.now in
    let n : ℕ = c.loop-number.number in
    let none : Cold = record { label = record { 0 = 0 }; target = record { 0 = 0 } } in
    let give = delay_of c.args.entry c.args.first colds in
    let so_far = each_from give 0 (take n colds) in
    let more = give n (get_or colds n none) in
    c.in_ok-add_delay.ensures
    ∙ (ap (λ (ps : List Pass). ps ++ more) c.loop-number.invariant
    ∙ (append_assoc c.args.passes.now so_far more
    ∙ ap (λ (ps : List Pass). c.args.passes.now ++ ps) (sym (each_more give colds n none c.loop-number-test.true))))
