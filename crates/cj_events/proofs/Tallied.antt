-- What one event more comes to.
use Rattle.std.proofs.Common.{◌≡◌, ℕ, ◌+◌, List, [], ◌∷◌, ◌++◌, refl, arith}
use Rattle.std.proofs.lemmas.List.Sums.{sum_by_push}
use Rattle.cj_events.specs.declared.events.Event.{Event}
use Rattle.cj_events.specs.declared.events.Event.TheVariants.{Begin, Step, Compile}
use Rattle.cj_events.specs.Tallies.{begun_by, limit_by, count_by, compiled_by, runs, limits, counts, compiles, tally_of}
use Rattle.cj_events.specs.OneEvent.{counted}

none_more : (n : ℕ) → n + 0 ≡ n
none_more n = omega arith

pub tally_more : (events : List Event) (event : Event) → tally_of (events ++ event ∷ []) ≡ counted (tally_of events) event
unfolding tally_of counted
tally_more events (Begin call) =
    rw (
      sum_by_push begun_by events (Begin call),
      sum_by_push limit_by events (Begin call),
      sum_by_push count_by events
          (Begin call),
      sum_by_push compiled_by events (Begin call),
      none_more (counts events),
      none_more (compiles events),
    ) refl
tally_more events (Step run count) =
    rw (
      sum_by_push begun_by events (Step run count),
      sum_by_push limit_by events (Step run count),
      sum_by_push count_by events
          (Step run count),
      sum_by_push compiled_by events (Step run count),
      none_more (runs events),
      none_more (limits events),
      none_more (compiles events),
    ) refl
tally_more events (Compile function passes) =
    rw (
      sum_by_push begun_by events (Compile function passes),
      sum_by_push limit_by events (Compile function passes),
      sum_by_push count_by events
          (Compile function passes),
      sum_by_push compiled_by events (Compile function passes),
      none_more (runs events),
      none_more (limits events),
      none_more
          (counts events),
    ) refl
