-- What events come to: runs, limits, step counts and compilations.
use Rattle.std.specs.Prelude.{ℕ, ◌≤◌, List}
use Rattle.std.specs.List.{sum_by}
use Rattle.cj_events.specs.declared.events.Event.{Event}
use Rattle.cj_events.specs.declared.events.Event.TheVariants.{Begin, Step, Compile}
use Rattle.cj_events.specs.declared.tally.Tally.{Tally}
use Rattle.cj_events.specs.declared.limits.TheConstants.{MAX_EVENTS}

abbrev pub begun_by : Event → ℕ
begun_by (Begin call) = 1
begun_by (Step run count) = 0
begun_by (Compile function passes) = 0

abbrev pub limit_by : Event → ℕ
limit_by (Begin call) = call.limit
limit_by (Step run count) = 0
limit_by (Compile function passes) = 0

abbrev pub count_by : Event → ℕ
count_by (Begin call) = 0
count_by (Step run count) = count
count_by (Compile function passes) = 0

abbrev pub compiled_by : Event → ℕ
compiled_by (Begin call) = 0
compiled_by (Step run count) = 0
compiled_by (Compile function passes) = 1

-- the number of runs that begin
abbrev pub runs : List Event → ℕ
runs events = sum_by begun_by events

-- the sum of their limits
abbrev pub limits : List Event → ℕ
limits events = sum_by limit_by events

-- the sum of the step counts
abbrev pub counts : List Event → ℕ
counts events = sum_by count_by events

-- the number of compilations
abbrev pub compiles : List Event → ℕ
compiles events = sum_by compiled_by events

unfoldable pub tally_of : List Event → Tally
tally_of events =
    record { runs = runs events; limits = limits events; counts = counts events; compiles = compiles events }

-- the limits of a replay
pub record IsWithin (tally : Tally) : Type 0 where
  pub few_runs : tally.runs ≤ MAX_EVENTS
  pub few_turns : tally.limits ≤ 4000000
  pub few_steps : tally.counts ≤ 4000000
  pub few_compiles : tally.compiles ≤ MAX_EVENTS
