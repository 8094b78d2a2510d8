use Rattle.cj_driver.proofs.Ends.{read_answers, stopped}
use Rattle.cj_driver.proofs.one_thread.answer_input.Goals as goal

pub returns-in-Ok : goal.returns-in-Ok
returns-in-Ok g c = read_answers c.in-Ok.ensures.read c.in-Ok.ensures.calm c.finish_input.ensures

pub returns-in-Err : goal.returns-in-Err
returns-in-Err g c = stopped c.in-Err.ensures.stop c.finish_stop.ensures
