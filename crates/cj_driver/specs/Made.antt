-- What a command makes.
use Rattle.std.specs.Prelude.{◌≡◌, List, [], None}
use Rattle.cj_calls.specs.declared.report.Report.{Report}
use Rattle.cj_driver.specs.declared.finish.Made.{Made}

-- reports, and nothing beside them
pub record IsReportsAlone (made : Made) (reports : List Report) : Type 0 where
  pub are_reports : made.reports ≡ reports
  pub no_work : made.work ≡ []
  pub no_store : made.store ≡ None

abbrev pub IsNothing : Made → Type 0
IsNothing made = IsReportsAlone made []
