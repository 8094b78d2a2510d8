use Rattle.std.proofs.Common.{◌≡◌, length, []}
use Rattle.cj_tokens.specs.Left.{left, source}
use Rattle.cj_events.specs.Reading.{passes_at}
use Rattle.cj_events.proofs.passes.read_passes.Given as goal

abbrev pub invariant-passes : goal.invariant-passes
invariant-passes l =
    record {
      same : passes_at [] (left l.fn.tokens) ≡ passes_at l.passes (left l.tokens);
      source : source l.tokens ≡ source l.fn.tokens;
    }

abbrev pub decreases-passes : goal.decreases-passes
decreases-passes l = length (left l.tokens)
