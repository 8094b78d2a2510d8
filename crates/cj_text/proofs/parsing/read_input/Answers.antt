use Rattle.cj_text.proofs.Readings.{functions_fail, script_fails, both_read}
use Rattle.cj_text.proofs.parsing.read_input.Goals as goal

pub returns-in-Err-clause-read : goal.returns-in-Err-clause-read
returns-in-Err-clause-read c tree is = functions_fail _ c.in-Err.error c.in-Err.ensures.read tree is

pub returns-in-Ok-read_script-clause-read : goal.returns-in-Ok-read_script-clause-read
returns-in-Ok-read_script-clause-read c tree is =
    both_read _ _ _ c.in-Ok.checked c.in-Ok-read_script.script c.in-Ok.ensures.read c.in-Ok-read_script.ensures.meaning tree is

pub returns-in-Err-read_script-clause-read : goal.returns-in-Err-read_script-clause-read
returns-in-Err-read_script-clause-read c tree is =
    script_fails _ _ c.in-Ok.checked c.in-Err-read_script.error c.in-Ok.ensures.read c.in-Err-read_script.ensures.meaning tree is
