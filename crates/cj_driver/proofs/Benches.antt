-- What is owed for a bench, whose input is the generated one.
use Rattle.std.proofs.Common.{◌≡◌, subst, ℕ, List}
use Rattle.cj_ir.specs.declared.script.Input.{Input}
use Rattle.cj_bench.specs.Generated.{generated}
use Rattle.cj_bench.specs.Summary.{summary_text}
use Rattle.cj_driver.specs.Texts.{AloneAnswers, TeamAnswers, OwesSummary, OwesTeamSummary}
use Rattle.cj_driver.specs.declared.finish.Made.{Made}
use Rattle.cj_driver.specs.declared.team.Team.{Team}

pub summary_owes : (number : ℕ) (input : Input) (made : Made) (owed : List ℕ) → input ≡ generated number → AloneAnswers input made →
    owed ≡ summary_text number made.reports → OwesSummary number made owed
summary_owes number input made owed same answers text =
    let P : Input → Type 0 = λ i. AloneAnswers i made in
    record { answers = subst P same answers; text = text }

pub team_summary_owes : (number : ℕ) (team : Team) (input : Input) (made : Made) (owed : List ℕ) → input ≡ generated number → TeamAnswers team input made →
    owed ≡ summary_text number made.reports → OwesTeamSummary number team made owed
team_summary_owes number team input made owed same answers text =
    let P : Input → Type 0 = λ i. TeamAnswers team i made in
    record { answers = subst P same answers; text = text }
