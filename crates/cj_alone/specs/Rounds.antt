-- What a run's calls do to its seats, each followed by one work.
use Rattle.std.specs.Prelude.{◌≡◌, List, [], ◌∷◌, ◌++◌}
use Rattle.cj_ir.specs.declared.language.Program.{Program}
use Rattle.cj_ir.specs.declared.script.Setup.{Setup}
use Rattle.cj_base.specs.Run.{Begun}
use Rattle.cj_calls.specs.declared.report.Report.{Report}
use Rattle.cj_profile.specs.declared.view.Read.{Read}
use Rattle.cj_publish.specs.declared.view.View.{View}
use Rattle.cj_parts.specs.Runs.{Ran}
use Rattle.cj_notes.specs.declared.notes.WorkNote.{WorkNote}
use Rattle.cj_notes.specs.Works.{WorkedOne}
use Rattle.cj_records.specs.Loops.{Prepared, RoundsShow}
use Rattle.cj_records.specs.Versions.{HasHeadline}
use Rattle.cj_alone.specs.declared.rounds.Progress.{Progress}
use Rattle.cj_alone.specs.Seats.{view_at, reads_at}

-- A session has run the call, and then one work was done: there is one report and one note more.
pub record RoundMade (P : Program) (call : Begun) (a b : Progress) : Type 0 where
  pub report : Report
  pub note : WorkNote
  pub view : View
  pub reads : List Read
  pub ran : Ran P call report (view_at a.seats) view (reads_at a.seats) reads
  pub worked : WorkedOne P note view (view_at b.seats) reads (reads_at b.seats)
  pub reports : b.reports ≡ a.reports ++ report ∷ []
  pub work : b.work ≡ a.work ++ note ∷ []

-- These calls were made since. Their reports have the headline; and whatever setups the seats were prepared with, the clauses
-- of calls on one thread stand.
pub record RoundsMade (P : Program) (calls : List Begun) (a b : Progress) : Type 0 where
  pub headline : HasHeadline P calls b.reports
  pub shows : (setups : List Setup) → Prepared P setups setups a.work (view_at a.seats) (reads_at a.seats) →
      RoundsShow P setups calls b.reports b.work (view_at b.seats) (reads_at b.seats)
