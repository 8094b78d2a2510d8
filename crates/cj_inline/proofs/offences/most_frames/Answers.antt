use Rattle.cj_inline.specs.Inlining.{place_frames}
use Rattle.cj_inline.proofs.Greatest.{greatest_more}
use Rattle.cj_inline.proofs.offences.most_frames.Goals as goal

pub each-preserved : goal.each-preserved
each-preserved c =
    greatest_more place_frames c.args.places.now c.each.place-index c.each.most c.place_frames.result c.greater-most.result c.place-item.result
    c.each-test.true c.place-item.is c.each.invariant c.place_frames.ensures c.greater-most.ensures
