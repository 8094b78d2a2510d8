use Rattle.std.proofs.Common.{[], ◌∷◌, length, ap, arith}
use Rattle.cj_plan.proofs.Each.{room_full}
use Rattle.cj_plan.proofs.inlines.add_label.Goals as goal

pub returns-else-items-lt-INLINES : goal.returns-else-items-lt-INLINES
returns-else-items-lt-INLINES c =
    let l = ap length c.items.ensures in
    room_full 4 c.args.calls.now (c.args.label ∷ []) (omega arith) c.requires
