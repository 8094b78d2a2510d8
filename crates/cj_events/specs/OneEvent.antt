-- What one event more comes to.
use Rattle.std.specs.Prelude.{◌+◌}
use Rattle.cj_events.specs.declared.events.Event.{Event}
use Rattle.cj_events.specs.declared.events.Event.TheVariants.{Begin, Step, Compile}
use Rattle.cj_events.specs.declared.tally.Tally.{Tally}

-- the tally of some events, with that of one more
unfoldable pub counted : Tally → Event → Tally
counted tally (Begin call) = record tally { runs = tally.runs + 1; limits = tally.limits + call.limit }
counted tally (Step run count) = record tally { counts = tally.counts + count }
counted tally (Compile function passes) = record tally { compiles = tally.compiles + 1 }
