use Rattle.std.proofs.Common.{map, rules, ◌<◌}
use Rattle.cj_roles.proofs.Piles.{gathers_first, gathers_more}
use Rattle.cj_roles.proofs.gathering.gather.Goals as goal

pub take_next-requires : goal.take_next-requires
take_next-requires c = gathers_first c.args.count c.loop.counter c.loop.reports _ _ c.loop.invariant (let lt : c.loop.counter
    < c.args.count = search rules in lt)

pub loop-preserved : goal.loop-preserved
loop-preserved c = rw c.in_ok-push.ensures.ok
    (gathers_more c.args.count c.loop.counter c.loop.reports _ _ c.loop.invariant (let lt : c.loop.counter < c.args.count = search rules in lt)
    c.in_ok-take_next.field-0 _ c.in_ok-take_next.ensures)
