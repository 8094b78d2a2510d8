use Rattle.cj_events.proofs.ReplayReads.{functions_fail, events_fail, both_read, both_fit}
use Rattle.cj_events.proofs.replays.read_replay.Goals as goal

pub returns-in-Err-clause-read : goal.returns-in-Err-clause-read
returns-in-Err-clause-read c tree is = functions_fail _ c.in-Err.error c.in-Err.ensures.read tree is

pub returns-in-Ok-read_history-clause-read : goal.returns-in-Ok-read_history-clause-read
returns-in-Ok-read_history-clause-read c tree is =
    both_read _ _ _ c.in-Ok.checked c.in-Ok-read_history.events c.in-Ok.ensures.read c.in-Ok-read_history.ensures.meaning tree is

pub returns-in-Ok-read_history-clause-fits : goal.returns-in-Ok-read_history-clause-fits
returns-in-Ok-read_history-clause-fits c =
    both_fit _ _ _ c.in-Ok.checked c.in-Ok-read_history.events c.in-Ok.ensures.read c.in-Ok-read_history.ensures.meaning c.requires

pub returns-in-Err-read_history-clause-read : goal.returns-in-Err-read_history-clause-read
returns-in-Err-read_history-clause-read c tree is =
    events_fail _ _ c.in-Ok.checked c.in-Err-read_history.error c.in-Ok.ensures.read c.in-Err-read_history.ensures.meaning tree is
