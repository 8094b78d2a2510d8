use Rattle.std.proofs.Common.{◌≡◌, ◌++◌, ℕ, List, Option, take, sym, ap, ◌∙◌}
use Rattle.cj_ir.specs.declared.language.FunId.{FunId}
use Rattle.cj_ir.specs.declared.language.Label.{Label}
use Rattle.cj_plan.specs.Plan.{each_from, inline_by, inline_of}
use Rattle.cj_plan.proofs.Each.{each_at, room_more}
use Rattle.cj_plan.proofs.inlines.inlined_in.Goals as goal

pub loop-label-preserved : goal.loop-label-preserved
loop-label-preserved c =
    let code = c.args.code.now in
    let n : ℕ = c.loop-label.label in
    let line = c.index-code-label.result in
    let give = inline_of c.args.checked.now c.args.f in
    let so_far = each_from give 0 (take n code) in
    let own : c.add_call.new.calls ≡ take 4 (c.loop-label.calls ++ give n line) =
    c.in_ok-add_call.ensures ∙ ap (λ (o : Option FunId). take 4 (c.loop-label.calls ++ inline_by c.args.checked.now c.args.f n o)) c.callee_of.ensures in
    room_more 4 so_far (give n line) c.loop-label.calls c.add_call.new.calls c.loop-label.invariant own
    ∙ ap (λ (xs : List Label). take 4 xs) (sym (each_at give code n line c.loop-label-test.true c.index-code-label.is))
