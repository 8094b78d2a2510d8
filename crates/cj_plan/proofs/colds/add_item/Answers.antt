use Rattle.std.proofs.Common.{[], ◌∷◌, length, ap, ◌∙◌, arith}
use Rattle.cj_plan.proofs.Each.{room_one, room_full}
use Rattle.cj_plan.proofs.colds.add_item.Goals as goal

pub returns-in_ok-push-clause-item : goal.returns-in_ok-push-clause-item
returns-in_ok-push-clause-item c =
    let l = ap length c.items.ensures in
    c.in_ok-push.ensures.ok ∙ room_one 64 c.args.colds.now c.args.cold (omega arith)

pub returns-else-items-lt-COLDS-clause-item : goal.returns-else-items-lt-COLDS-clause-item
returns-else-items-lt-COLDS-clause-item c =
    let l = ap length c.items.ensures in
    room_full 64 c.args.colds.now (c.args.cold ∷ []) (omega arith) c.requires
