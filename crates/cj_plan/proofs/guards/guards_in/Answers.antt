use Rattle.std.proofs.Common.{ℕ, List, ◌++◌, get_or, pos, sym, ap, ◌∙◌}
use Rattle.cj_ir.specs.declared.language.Guard.{Guard}
use Rattle.cj_profile.specs.declared.snapshot.ParamNote.{ParamNote}
use Rattle.cj_plan.specs.Plan.{guard_of}
use Rattle.cj_plan.proofs.Each.{each_more}
use Rattle.cj_plan.proofs.guards.guards_in.Goals as goal

pub loop-param-preserved : goal.loop-param-preserved
loop-param-preserved c =
    let params = c.args.params.now in
    let n : ℕ = c.loop-param.param in
    let none : ParamNote = record { last = pos 0; agreed = 0 } in
    let step = each_more guard_of params n none c.loop-param-test.true in
    c.in_ok-add_guard.ensures ∙ (ap (λ (gs : List Guard). gs ++ guard_of n (get_or params n none)) c.loop-param.invariant ∙ sym step)
