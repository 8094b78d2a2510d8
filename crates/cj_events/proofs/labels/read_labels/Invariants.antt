use Rattle.std.proofs.Common.{◌≡◌, length, []}
use Rattle.cj_tokens.specs.Left.{left, source}
use Rattle.cj_events.specs.Reading.{labels_at}
use Rattle.cj_events.proofs.labels.read_labels.Given as goal

abbrev pub invariant-labels : goal.invariant-labels
invariant-labels l =
    record {
      same : labels_at [] (left l.fn.tokens) ≡ labels_at l.labels (left l.tokens);
      source : source l.tokens ≡ source l.fn.tokens;
    }

abbrev pub decreases-labels : goal.decreases-labels
decreases-labels l = length (left l.tokens)
