use Rattle.std.proofs.Common.{◌≡◌, length, []}
use Rattle.cj_tokens.specs.Left.{left, source}
use Rattle.cj_events.specs.Reading.{events_at}
use Rattle.cj_events.specs.Tallies.{tally_of, IsWithin}
use Rattle.cj_events.proofs.readers.read_events.Given as goal

abbrev pub invariant-events : goal.invariant-events
invariant-events l =
    record {
      same : events_at l.functions [] (left l.fn.tokens) ≡ events_at l.functions l.events (left l.tokens);
      source : source l.tokens ≡ source l.fn.tokens;
      tally : l.tally ≡ tally_of l.events;
      within : IsWithin l.tally;
    }

abbrev pub decreases-events : goal.decreases-events
decreases-events l = length (left l.tokens)
