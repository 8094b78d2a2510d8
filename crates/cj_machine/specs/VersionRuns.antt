-- The versioned run of a call over a trail, by its turns, and the report that is read off it.
use Rattle.std.specs.Prelude.{ℕ, zero, suc, List, [], length, Option, Some, None, slice_get, ◌==◌, if◌then◌else◌}
use Rattle.cj_ir.specs.declared.language.Program.{Program}
use Rattle.cj_base.specs.declared.machine.End.{End}
use Rattle.cj_base.specs.declared.machine.End.TheVariants.{TurnLimit}
use Rattle.cj_base.specs.Run.{Begun}
use Rattle.cj_calls.specs.declared.report.Look.{Look}
use Rattle.cj_calls.specs.declared.report.Report.{Report}
use Rattle.cj_activations.specs.Activations.{Active}
use Rattle.cj_machine.specs.Versions.{State, Codes, Progress, Continues, Finishes, Undefined, entered, version_turn}

-- ---- the run

-- the state in which the called function is entered
unfoldable pub first_state : Begun → Active → State
first_state call top = record {
  stack = record { top = top; waiting = [] };
  memory = call.memory;
  printed = [];
  turns = 0;
  base_turns = 0;
  fails = 0;
  entries = 1;
  notes = [];
}

unfoldable pub begins_in : Begun → Option Active → Progress
begins_in call None = Undefined
begins_in call (Some top) = Continues (first_state call top)

-- the start, with the first look of the trail
unfoldable pub version_start : Program → Codes → Option Look → Begun → Progress
version_start P codes look call = begins_in call (entered P codes look call.function call.args)

-- one turn later, with the next look of the trail
unfoldable pub one_turn_more : Program → Codes → List Look → Progress → Progress
one_turn_more P codes trail (Continues s) = version_turn P codes (slice_get trail s.entries) s
one_turn_more P codes trail (Finishes end s) = Finishes end s
one_turn_more P codes trail Undefined = Undefined

-- the run after n turns
unfoldable pub version_run : Program → Codes → List Look → Begun → ℕ → Progress
version_run P codes trail call zero = version_start P codes (slice_get trail 0) call
version_run P codes trail call (suc n) = one_turn_more P codes trail (version_run P codes trail call n)

-- ---- what is read off it

unfoldable pub report_of : List Look → End → State → Report
report_of trail end s = record {
  printed = s.printed;
  end = end;
  turns = s.turns;
  base_turns = s.base_turns;
  fails = s.fails;
  notes = s.notes;
  looks = trail;
}

-- a report only where the whole trail was used
unfoldable pub if_used : List Look → End → State → Option Report
if_used trail end s = if s.entries == length trail then Some (report_of trail end s) else None

-- the report where no more turns are made
unfoldable pub report_at : List Look → Progress → Option Report
report_at trail (Continues s) = if_used trail TurnLimit s
report_at trail (Finishes end s) = if_used trail end s
report_at trail Undefined = None

-- the report of a call over a trail, which has to be used whole
unfoldable pub version_report : Program → Codes → List Look → Begun → Option Report
version_report P codes trail call = report_at trail (version_run P codes trail call call.limit)
