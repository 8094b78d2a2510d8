use Rattle.std.proofs.Common.{◌≡◌, ◌∙◌, ◌++◌, arith, ap, refl, drop}
use Rattle.cj_activations.proofs.Cuts.{writes_all}
use Rattle.cj_activations.specs.Windows.{position_at}
use Rattle.cj_activations.proofs.windows.write_frames.Goals as goal

pub returns-clause-written : goal.returns-clause-written
unfolding position_at
returns-clause-written c =
    let none : c.loop-place.place ≡ 0 = omega arith in
    let frames : drop c.loop-place.place c.items-frames.result.now ≡ c.args.waiting.now = rw none c.items-frames.ensures in
    let pushed = rw frames at c.loop-place.invariant.pushed in
    let values = c.in_ok-extend_from_slice.ensures.items ∙ ap (λ regs. c.loop-place.values.items ++ regs) c.items.ensures in
    let start = c.len-start.ensures ∙ c.loop-place.values.ok.0 in
    writes_all _ _ _ _ _ _ _ _ pushed values refl start
