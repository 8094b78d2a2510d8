use Rattle.std.proofs.Common.{sym, ◌∙◌}
use Rattle.cj_tokens.specs.Left.{left}
use Rattle.cj_events.proofs.PassTurns.{pass_shorter}
use Rattle.cj_events.proofs.passes.read_passes.Goals as goal

pub passes-smaller : goal.passes-smaller
passes-smaller c =
    pass_shorter _ (left c.passes.tokens) (c.in-Ok.pass, left c.read_pass.new.tokens) (sym c.is_pass.ensures ∙ c.passes-test.true) c.in-Ok.ensures.gives
