-- What a task reads, and what it owes for it.
use Rattle.std.specs.Prelude.{◌≡◌, ℕ, Bool, false, List, [], map, Option, Some, Result}
use Rattle.cj_ir.specs.declared.script.Input.{Input}
use Rattle.cj_tokens.specs.declared.refusal.Refused.{Refused}
use Rattle.cj_base.specs.Run.{Begun, begun}
use Rattle.cj_text.specs.Reads.{Reads}
use Rattle.cj_printer.specs.Canonical.{input_text}
use Rattle.cj_calls.specs.Output.{reports_text}
use Rattle.cj_bench.specs.Generated.{generated}
use Rattle.cj_bench.specs.Summary.{summary_text}
use Rattle.cj_events.specs.Replays.{Replay, ReadsReplay}
use Rattle.cj_world.specs.declared.played.Played.{Played}
use Rattle.cj_world.specs.Played.{IsPlay}
use Rattle.cj_records.specs.declared.store.Store.{Store}
use Rattle.cj_records.specs.Versions.{HasHeadline, AloneStands, RunStands}
use Rattle.cj_records.specs.Chains.{alone_each}
use Rattle.cj_driver.specs.Made.{IsNothing, IsReportsAlone}
use Rattle.cj_driver.specs.declared.command.Task.{Task}
use Rattle.cj_driver.specs.declared.command.Task.TheVariants.{OnInput, OnReplay}
use Rattle.cj_driver.specs.declared.command.Job.{Job}
use Rattle.cj_driver.specs.declared.command.Job.TheVariants.{Alone, Format}
use Rattle.cj_driver.specs.declared.finish.Made.{Made}
use Rattle.cj_driver.specs.declared.team.Team.{Team}

-- ---- what is read

abbrev pub TextOf : Task → Type 0
TextOf (OnInput job) = Input
TextOf (OnReplay stats) = Replay

-- the bytes are this text, or are refused with this first offence
abbrev pub ReadsAs : (t : Task) → List ℕ → Result (TextOf t) Refused → Type 0
ReadsAs (OnInput job) bytes answer = Reads bytes answer
ReadsAs (OnReplay stats) bytes answer = ReadsReplay bytes answer

-- ---- the runs of a script's calls

-- how many words a code table has
abbrev pub table_words : ℕ
table_words = 1048576

abbrev pub calls_of : Input → List Begun
calls_of input = map begun input.script.calls

-- One report for each call, in order. The store binds the reports to the versions that were made and entered.
pub record AloneAnswers (input : Input) (made : Made) : Type 0 where
  pub headline : HasHeadline input.checked (calls_of input) made.reports
  pub store : Store
  pub kept : made.store ≡ Some store
  pub versions : AloneStands input.checked table_words input.script.setups (calls_of input) made.reports made.work store

-- the same of callers and workers in threads
pub record TeamAnswers (team : Team) (input : Input) (made : Made) : Type 0 where
  pub headline : HasHeadline input.checked (calls_of input) made.reports
  pub store : Store
  pub kept : made.store ≡ Some store
  pub versions : RunStands input.checked table_words team.callers team.workers input.script.setups (alone_each (calls_of input)) made.reports made.work store

-- ---- what is made of a text, and the bytes that are owed to the sink

-- the reports of the calls on one thread, and their text
pub record OwesAlone (stats : Bool) (input : Input) (made : Made) (owed : List ℕ) : Type 0 where
  pub answers : AloneAnswers input made
  pub text : owed ≡ reports_text input.checked made.reports stats

-- the reports of the calls in threads, and their text
pub record OwesTeam (team : Team) (input : Input) (made : Made) (owed : List ℕ) : Type 0 where
  pub answers : TeamAnswers team input made
  pub text : owed ≡ reports_text input.checked made.reports false

-- nothing, and the canonical text of the input
pub record OwesText (input : Input) (made : Made) (owed : List ℕ) : Type 0 where
  pub nothing : IsNothing made
  pub text : owed ≡ input_text input

-- the reports of the play of the events, one for each run, in order, and their text
pub record OwesPlay (stats : Bool) (text : Replay) (made : Made) (owed : List ℕ) : Type 0 where
  pub played : Played
  pub play : IsPlay text.0 table_words text.1 played
  pub same : IsReportsAlone made played.reports
  pub bytes : owed ≡ reports_text text.0 made.reports stats

-- the reports of the generated input's calls, and their summary
pub record OwesSummary (number : ℕ) (made : Made) (owed : List ℕ) : Type 0 where
  pub answers : AloneAnswers (generated number) made
  pub text : owed ≡ summary_text number made.reports

pub record OwesTeamSummary (number : ℕ) (team : Team) (made : Made) (owed : List ℕ) : Type 0 where
  pub answers : TeamAnswers team (generated number) made
  pub text : owed ≡ summary_text number made.reports

abbrev pub OwesOnInput : Job → Input → Made → List ℕ → Type 0
OwesOnInput (Alone stats) input made owed = OwesAlone stats input made owed
OwesOnInput Format input made owed = OwesText input made owed

abbrev pub Owes : (t : Task) → TextOf t → Made → List ℕ → Type 0
Owes (OnInput job) text made owed = OwesOnInput job text made owed
Owes (OnReplay stats) text made owed = OwesPlay stats text made owed
