use Rattle.std.proofs.Common.{ap, ◌∙◌}
use Rattle.cj_tokens.specs.Left.{left}
use Rattle.cj_events.proofs.EventReads.{history_known}
use Rattle.cj_events.proofs.replays.read_history.Goals as goal

pub returns-clause-meaning : goal.returns-clause-meaning
returns-clause-meaning c = λ t last rest h e.
    rw (history_known c.args.checked.now c.items-functions.result.now (left c.args.tokens.now) t last rest (c.items-functions.ensures
    ∙ ap (λ p. p.functions) c.program.ensures.same) h e) at c.read_listed.ensures.gives
