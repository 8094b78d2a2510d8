use Rattle.std.proofs.Common.{◌∙◌, ap, ◌++◌}
use Rattle.cj_base.specs.Machine.{entry_regs}
use Rattle.cj_activations.proofs.Cuts.{entered_seen}
use Rattle.cj_activations.specs.Changes.{entered}
use Rattle.cj_activations.proofs.activations.Activations.enter.Goals as goal

pub returns : goal.returns
unfolding entered
returns c =
    let values = c.in_ok-push_entry.ensures.ok ∙ ap (λ values. values ++ entry_regs c.args.count c.args.args.now) c.new-values.ensures.items in
    rw c.new.ensures.items (entered_seen _ _ _ _ values c.at.ensures.position c.at.ensures.start)
