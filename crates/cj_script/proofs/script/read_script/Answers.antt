use Rattle.std.proofs.Common.{sym, ap, ◌∙◌}
use Rattle.cj_tokens.specs.Left.{left}
use Rattle.cj_script.proofs.ScriptFits.{script_fits}
use Rattle.cj_script.proofs.ScriptReads.{script_known}
use Rattle.cj_script.proofs.script.read_script.Goals as goal

pub returns-in-Ok-clause-meaning : goal.returns-in-Ok-clause-meaning
returns-in-Ok-clause-meaning c = λ t last rest h e.
    sym (script_known c.args.checked.now c.items-functions.result.now (left c.args.tokens.now) t last rest
    (c.items-functions.ensures ∙ ap (λ p. p.functions) c.program.ensures.same) h e) ∙ c.in-Ok.ensures.gives

pub returns-in-Ok-clause-fits : goal.returns-in-Ok-clause-fits
returns-in-Ok-clause-fits c =
    script_fits c.args.checked.now c.items-functions.result.now (left c.args.tokens.now) (left c.read_lines.new.tokens) c.in-Ok.script
    (c.items-functions.ensures ∙ ap (λ p. p.functions) c.program.ensures.same) c.in-Ok.ensures.gives

pub returns-in-Err-clause-meaning : goal.returns-in-Err-clause-meaning
returns-in-Err-clause-meaning c = λ t last rest h e.
    rw (script_known c.args.checked.now c.items-functions.result.now (left c.args.tokens.now) t last rest
    (c.items-functions.ensures ∙ ap (λ p. p.functions) c.program.ensures.same) h e) at c.in-Err.ensures.gives
