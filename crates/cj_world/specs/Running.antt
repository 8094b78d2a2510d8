-- What contracts see of the code's runs and of its world.
use Rattle.std.specs.Prelude.{◌≡◌, ℕ, ◌<◌, ◌≤◌, List, map, length, All, Option, Some, None, true, slice_get, slice_set}
use Rattle.cj_ir.specs.WellFormed.{Takes}
use Rattle.cj_ir.specs.declared.language.Program.{Program}
use Rattle.cj_base.specs.declared.machine.End.{End}
use Rattle.cj_base.specs.declared.machine.End.TheVariants.{TurnLimit}
use Rattle.cj_base.specs.declared.machine.Turned.{Turned}
use Rattle.cj_base.specs.declared.machine.Turned.TheVariants.{Running, Ended}
use Rattle.cj_base.specs.Run.{Begun, begun}
use Rattle.cj_calls.specs.declared.report.Look.{Look}
use Rattle.cj_calls.specs.declared.report.Report.{Report}
use Rattle.cj_spelling.specs.Counting.{capped}
use Rattle.cj_machine.specs.Versions.{State, Codes, Progress, Continues, Finishes}
use Rattle.cj_machine.specs.VersionRuns.{version_report, report_of}
use Rattle.cj_machine.specs.CallRuns.{IsRun}
use Rattle.cj_world.specs.declared.runs.Run as code
use Rattle.cj_world.specs.declared.world.World as whole
use Rattle.cj_world.specs.declared.world.WordCount.{WordCount}
use Rattle.cj_world.specs.declared.world.WordCount.TheVariants.{Few, TooLarge}
use Rattle.cj_world.specs.Worlds.{Run, World, codes_in}
use Rattle.cj_world.specs.Caches.{made_in, IsReady}
use Rattle.cj_world.specs.Played.{IsReadOff}
use Rattle.cj_ir.specs.declared.limits.TheConstants.{MAX_FUNCTIONS}

-- ---- a run

unfoldable pub progress_by : Option End → State → Progress
progress_by None s = Continues s
progress_by (Some end) s = Finishes end s

unfoldable pub run_of : code.Run → Run
run_of run = record {
  call = begun run.call.now;
  looks = run.engine.looks;
  progress = progress_by run.end run.engine.state;
}

-- the end that a turn tells
unfoldable pub end_told : Turned → Option End
end_told Running = None
end_told (Ended end) = Some end

-- the end of a run, which is the turn limit where no turn ended it
unfoldable pub end_answered : Option End → End
end_answered None = TurnLimit
end_answered (Some end) = end

-- where a run over these codes is: it goes on, or its report is known
abbrev pub IsAt : Program → Codes → List Look → Begun → Option End → State → Type 0
IsAt P codes looks call None s = IsRun P codes looks call s
IsAt P codes looks call (Some end) s = version_report P codes looks call ≡ Some (report_of looks end s)

pub record Fits (P : Program) (codes : Codes) (run : code.Run) : Type 0 where
  pub program : run.engine.program ≡ P
  pub takes : Takes P.functions run.call.now.function (length run.call.now.args)
  pub running : run.end ≡ None → run.engine.running ≡ true
  pub used : run.engine.state.entries ≡ length run.engine.looks
  pub «at» : IsAt P codes run.engine.looks (begun run.call.now) run.end run.engine.state

-- it has ended, or has reached its limit
abbrev pub IsThrough : code.Run → Type 0
IsThrough run = run.end ≡ None → run.engine.state.turns ≡ run.call.now.limit

-- the run at a place has made so many turns, or as many as it could
pub record HasGone (place count : ℕ) (before after : List code.Run) : Type 0 where
  pub was : code.Run
  pub now : code.Run
  pub at : slice_get before place ≡ Some was
  pub instead : after ≡ slice_set before place now
  pub through : was.call.now.limit ≡ count → IsThrough now

-- the report is the run's
pub record IsToldOf (P : Program) (codes : Codes) (run : code.Run) (r : Report) : Type 0 where
  pub read_off : IsReadOff (run_of run) r
  pub takes : Takes P.functions run.call.now.function (length run.call.now.args)
  pub report : version_report P codes r.looks (begun run.call.now) ≡ Some r

-- ---- the world

unfoldable pub world_of : whole.World → World
world_of w = record {
  next = w.next;
  current = w.cache.current;
  made = made_in w.cache;
  runs = map run_of w.runs.items;
  trail = w.cache.trail;
  compiled = w.compiled;
  skips = w.skips;
}

-- The versions lie before the first free word, and each run is where its turns have brought it.
pub record Orderly (w : whole.World) : Type 0 where
  pub ready : IsReady w.cache
  pub few : length w.cache.checked.now.functions ≤ MAX_FUNCTIONS
  pub before : All (λ made. made.offset < w.next) (made_in w.cache)
  pub fit : All (Fits w.cache.checked.now (codes_in (made_in w.cache))) w.runs.items

-- the count of so many words
abbrev pub HasWords : ℕ → WordCount → Type 0
HasWords words (Few count) = (words ≤ 65536) × (count ≡ words)
HasWords words (TooLarge len) = (65536 < words) × (len ≡ capped words)
