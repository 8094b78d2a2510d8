use Rattle.cj_driver.proofs.Ends.{benched}
use Rattle.cj_driver.proofs.threads.answer_team_bench.Goals as goal

pub returns : goal.returns
returns g c = λ given reads. benched given reads c.finish_team_bench.ensures
