use Rattle.std.proofs.Common.{◌≡◌, ◌≤◌, ◌∙◌, List, ap, length, arith}
use Rattle.cj_draft.specs.declared.points.PointFrame.{PointFrame}
use Rattle.cj_inline.specs.Inlining.{most_frames}
use Rattle.cj_inline.proofs.Greatest.{few_frames}
use Rattle.cj_inline.proofs.offences.callee_offence.Goals as goal

pub overflow_add-frames : goal.overflow_add-frames
overflow_add-frames c =
    let callee = c.args.callee.now in
    let named = c.requires.callee in
    let few : most_frames callee.places ≤ 4 = few_frames named.0 callee.regs (length callee.places) callee.places named.1.places in
    let most : c.most_frames-most.result ≡ most_frames callee.places = c.most_frames-most.ensures ∙ ap most_frames c.items.ensures in
    omega (arith, few, most, ap (λ (fs : List PointFrame). length fs) c.items-2.ensures, c.requires.point.1.few_frames)

pub overflow_cast-frames : goal.overflow_cast-frames
overflow_cast-frames c =
    let callee = c.args.callee.now in
    let named = c.requires.callee in
    let few : most_frames callee.places ≤ 4 = few_frames named.0 callee.regs (length callee.places) callee.places named.1.places in
    let most : c.most_frames-most.result ≡ most_frames callee.places = c.most_frames-most.ensures ∙ ap most_frames c.items.ensures in
    omega (arith, few, most, ap (λ (fs : List PointFrame). length fs) c.items-2.ensures, c.requires.point.1.few_frames)
