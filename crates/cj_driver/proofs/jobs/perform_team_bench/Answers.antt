use Rattle.cj_driver.proofs.Benches.{team_summary_owes}
use Rattle.cj_driver.proofs.jobs.perform_team_bench.Goals as goal

pub returns : goal.returns
returns g c =
    team_summary_owes c.args.number c.args.team c.in_ok-input.input c.in_ok-made.made c.in_ok-text.text.items c.in_ok-input.ensures.input c.in_ok-made.ensures
    c.in_ok-text.ensures
