use Rattle.cj_const.specs.Knowledge.{known}
use Rattle.cj_const.proofs.Joining.{known-in, below-more, below-none}
use Rattle.cj_const.proofs.facts.facts_of.Goals as goal

pub loop-reg-init : goal.loop-reg-init
loop-reg-init c = below-none (known c.args.row.now) c.new-facts.result c.new-facts.ensures

pub loop-reg-preserved : goal.loop-reg-preserved
loop-reg-preserved c =
    below-more (known c.args.row.now) c.loop-reg.reg c.loop-reg.facts c.push_fact.new.facts c.known.result c.loop-reg.invariant c.in_ok-push_fact.ensures
    (known-in c.items.result.now c.args.row.now c.loop-reg.reg c.known.result c.known.ensures c.items.ensures)
