use Rattle.std.proofs.Common.{sym, ◌∙◌}
use Rattle.cj_tokens.specs.Left.{left}
use Rattle.cj_events.proofs.EventTurns.{event_shorter}
use Rattle.cj_events.proofs.readers.read_events.Goals as goal

pub events-smaller : goal.events-smaller
events-smaller c =
    event_shorter c.args.functions.now c.events.tally (left c.events.tokens) (c.in-Ok.event, left c.read_event.new.tokens)
    (sym c.is_event.ensures ∙ c.events-test.true) c.in-Ok.ensures.gives
