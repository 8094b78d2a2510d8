use Rattle.std.proofs.Common.{sym, ◌∙◌}
use Rattle.cj_tokens.specs.Left.{left}
use Rattle.cj_script.proofs.SetupTurns.{setup_shorter}
use Rattle.cj_script.proofs.setups.read_setups.Goals as goal

pub setups-smaller : goal.setups-smaller
setups-smaller c =
    setup_shorter c.args.functions.now c.setups.setups (left c.setups.tokens) (c.in-Ok.setup, left c.read_setup.new.tokens)
    (sym c.is_setup.ensures ∙ c.setups-test.true) c.in-Ok.ensures.gives
