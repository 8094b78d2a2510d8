use Rattle.std.proofs.Common.{sym, ◌∙◌}
use Rattle.cj_tokens.specs.Left.{left}
use Rattle.cj_events.proofs.GuardTurns.{guard_shorter}
use Rattle.cj_events.proofs.guards.read_more.Goals as goal

pub guards-smaller : goal.guards-smaller
guards-smaller c =
    guard_shorter _ (left c.guards.tokens) (c.in-Ok-read_guard.guard, left c.read_guard.new.tokens)
    (sym c.is_at.ensures ∙ c.guards-test.true) c.in-Ok-read_guard.ensures.gives
