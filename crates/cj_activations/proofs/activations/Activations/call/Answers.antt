use Rattle.std.proofs.Common.{◌∙◌}
use Rattle.cj_activations.proofs.Cuts.{called_seen, called_tiled}
use Rattle.cj_activations.specs.Changes.{called, entered}
use Rattle.cj_activations.proofs.activations.Activations.call.Goals as goal

pub invariant_of-self-2 : goal.invariant_of-self-2
invariant_of-self-2 c =
    let start = c.at-self-inside.ensures.start ∙ c.len-start.ensures ∙ c.self.inside.values.ok.0 in
    let pushed = rw c.if-is_err.ensures.negation at c.push.ensures.items in
    called_tiled c.self.inside.values.items _ _ c.self.inside.top c.at-self-inside.result _ c.self.inside.waiting.items _ _ _ c.in_ok-push_entry.ensures.ok
    pushed c.paused.ensures start c.self.invariant

pub returns-clause-ok : goal.returns-clause-ok
unfolding called entered
returns-clause-ok c =
    let start = c.at-self-inside.ensures.start ∙ c.len-start.ensures ∙ c.self.inside.values.ok.0 in
    let pushed = rw c.if-is_err.ensures.negation at c.push.ensures.items in
    called_seen c.self.inside.values.items _ _ c.self.inside.top _ _ _ c.self.inside.waiting.items _ _ _ _ c.at-self-inside.ensures.position
    c.in_ok-push_entry.ensures.ok pushed c.paused.ensures start c.self.view_is
