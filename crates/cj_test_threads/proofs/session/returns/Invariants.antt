use Rattle.std.proofs.Common.{◌≡◌}
use Rattle.cj_session.specs.Sessions.{IsReady}
use Rattle.cj_test_threads.proofs.session.returns.Given as goal

-- the session can go on, and is of the same program and profile
abbrev pub invariant-loop : goal.invariant-loop
invariant-loop l = IsReady l.session × (l.session.checked.now ≡ l.initial.session.checked.now) × (l.session.profile.now ≡ l.initial.session.profile.now)
