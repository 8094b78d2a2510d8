use Rattle.cj_inline.specs.Inlining.{back_frames}
use Rattle.cj_inline.proofs.Greatest.{greatest_more}
use Rattle.cj_inline.proofs.offences.backs_frames.Goals as goal

pub each-preserved : goal.each-preserved
each-preserved c =
    greatest_more back_frames c.args.backs.now c.each.pair-index c.each.most c.back_frames.result c.greater-most.result c.pair-item.result
    c.each-test.true c.pair-item.is c.each.invariant c.back_frames.ensures c.greater-most.ensures
