use Rattle.std.proofs.Common.{sym, ◌∙◌}
use Rattle.cj_tokens.specs.Left.{left}
use Rattle.cj_events.proofs.LabelTurns.{label_shorter}
use Rattle.cj_events.proofs.labels.read_labels.Goals as goal

pub labels-smaller : goal.labels-smaller
labels-smaller c =
    label_shorter _ (left c.labels.tokens) (c.in-Ok.label, left c.read_label.new.tokens) (sym c.is_at.ensures ∙ c.labels-test.true) c.in-Ok.ensures.gives
