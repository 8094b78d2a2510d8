use Rattle.std.proofs.Common.{◌≡◌, ◌∷◌, length, []}
use Rattle.cj_tokens.specs.Left.{left, source}
use Rattle.cj_events.specs.Reading.{more_guards_at}
use Rattle.cj_events.proofs.guards.read_more.Given as goal

abbrev pub invariant-guards : goal.invariant-guards
invariant-guards l =
    record {
      same : more_guards_at (l.fn.first ∷ []) (left l.fn.tokens) ≡ more_guards_at l.guards (left l.tokens);
      source : source l.tokens ≡ source l.fn.tokens;
    }

abbrev pub decreases-guards : goal.decreases-guards
decreases-guards l = length (left l.tokens)
