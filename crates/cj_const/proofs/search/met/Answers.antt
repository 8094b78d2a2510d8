use Rattle.std.proofs.Common.{List, Option, None, length, get_or, ap, ◌∙◌, arith}
use Rattle.std.specs.Prelude.{ℤ}
use Rattle.cj_const.specs.Search.{kept_slot, met}
use Rattle.cj_const.proofs.Meeting.{met-more, met-all}
use Rattle.cj_const.proofs.search.met.Goals as goal

pub loop-reg-preserved : goal.loop-reg-preserved
loop-reg-preserved c =
    let row = c.args.row.now in
    let others = c.args.others.now in
    let i = c.loop-reg.reg in
    met-more row others i None None c.kept_slot.result c.loop-reg.made c.push.new.self (met row others) (omega (arith, ap length c.items-slot-items.ensures))
    c.requires
    (c.kept_slot.ensures ∙ ap (λ (items : List (Option ℤ)). kept_slot (get_or items i None) (get_or others i None)) c.items-slot-items.ensures)
    c.in_ok-push.ensures.ok c.loop-reg.invariant

pub returns : goal.returns
returns c = met-all c.args.row.now c.args.others.now c.loop-reg.reg c.loop-reg.made (met c.args.row.now c.args.others.now)
    (omega (arith, ap length c.items-slot-items.ensures)) c.loop-reg.invariant
