use Rattle.std.proofs.Common.{◌≤◌, List, length, sym, ◌∙◌, subst}
use Rattle.cj_plan.specs.declared.colds.Cold.{Cold}
use Rattle.cj_plan.specs.Plan.{each_from, cold_of}
use Rattle.cj_plan.proofs.Each.{take_few}
use Rattle.cj_plan.proofs.plans.add_cold_passes.Goals as goal

pub add_delays-requires-clause-few : goal.add_delays-requires-clause-few
add_delays-requires-clause-few c =
    let code = c.args.code.now in
    subst (λ (xs : List Cold). length xs ≤ 64) (sym (c.items-3.ensures ∙ c.in_ok-colds.ensures)) (take_few 64 (each_from (cold_of c.items-2.result.now) 0 code))
