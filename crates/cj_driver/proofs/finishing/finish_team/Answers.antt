use Rattle.cj_driver.proofs.Ends.{written, wanted}
use Rattle.cj_driver.proofs.finishing.finish_team.Goals as goal

pub returns-in-Ok : goal.returns-in-Ok
returns-in-Ok g c = written c.in-Ok.ensures c.write_answer.ensures

pub returns-in-Err : goal.returns-in-Err
returns-in-Err g c = wanted c.stopped.ensures.status c.stopped.ensures.refused c.stopped.ensures.nothing
