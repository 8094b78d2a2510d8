use Rattle.std.proofs.Common.{◌∙◌, ◌++◌, ap}
use Rattle.cj_activations.proofs.Cuts.{pushes_one}
use Rattle.cj_activations.proofs.windows.push_waiting.Goals as goal

pub returns-clause-pushed : goal.returns-clause-pushed
returns-clause-pushed c =
    let values = c.in_ok-extend_from_slice.ensures.items ∙ ap (λ regs. c.args.values.now.items ++ regs) c.items.ensures in
    let start = c.len-start.ensures ∙ c.args.values.now.ok.0 in
    pushes_one _ _ _ _ _ _ values c.in_ok-push.ensures.items start
