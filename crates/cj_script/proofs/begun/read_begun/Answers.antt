use Rattle.cj_tokens.specs.Left.{left}
use Rattle.cj_script.proofs.BegunReads.{begun_known}
use Rattle.cj_script.proofs.ScriptFits.{begun_fits}
use Rattle.cj_script.proofs.begun.read_begun.Goals as goal

pub returns-clause-meaning : goal.returns-clause-meaning
returns-clause-meaning c = λ t rest h.
    rw (begun_known c.args.functions.now c.args.spent (left c.args.tokens.now) t rest h) at c.read_run.ensures.gives

pub returns-clause-fits : goal.returns-clause-fits
returns-clause-fits c =
    begun_fits c.args.functions.now c.args.spent (left c.args.tokens.now) (left c.read_run.new.tokens) c.read_run.result c.read_run.ensures.gives
