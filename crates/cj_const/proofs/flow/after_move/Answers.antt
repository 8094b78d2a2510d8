use Rattle.std.proofs.Common.{◌∙◌, length, ap, arith, length-set}
use Rattle.cj_const.specs.Knowledge.{known}
use Rattle.cj_const.specs.Flow.{after_move}
use Rattle.cj_const.proofs.FlowSteps.{move-more, move-all}
use Rattle.cj_const.proofs.flow.after_move.Goals as goal

pub loop-pair-preserved : goal.loop-pair-preserved
loop-pair-preserved c =
    let k = known c.args.row.now in
    record {
      left = move-more c.args.row.now c.items.result.now c.loop-pair.made c.set.new.self c.args.pairs.now c.loop-pair.pair-index _ c.known_value.result
          (after_move k c.args.pairs.now k) c.loop-pair-test.true c.requires c.loop-pair.invariant.width c.set.ensures c.known_value.ensures c.items.ensures
          c.loop-pair.invariant.left;
      width = ap length c.set.ensures ∙ length-set c.loop-pair.made _ _ ∙ c.loop-pair.invariant.width;
    }

pub returns-clause-leaves : goal.returns-clause-leaves
returns-clause-leaves c =
    let k = known c.args.row.now in
    move-all k c.args.pairs.now c.loop-pair.pair-index (known c.loop-pair.made) (after_move k c.args.pairs.now k) (omega arith) c.loop-pair.invariant.left
