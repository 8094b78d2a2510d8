use Rattle.std.proofs.Common.{arith}
use Rattle.std.proofs.lemmas.Grind.{common_steps}
use Rattle.cj_draft.specs.Points.{frames_of}
use Rattle.cj_draft.proofs.PointLemmas.{stack_of-parts}
use Rattle.cj_draft.proofs.points.Point.frames.Goals as goal

pub returns : goal.returns
unfolding frames_of
returns c = λ P.
    let parts = stack_of-parts P c.args.self.now.frames c.args.regs.now c.index-frames-0.result c.requires.some in
    let top = c.in_ok-top.ensures P in
    let waiting = c.loop-frame.invariant P in
    grind (arith, common_steps, parts, top, waiting)
