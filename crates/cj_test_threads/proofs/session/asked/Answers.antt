use Rattle.cj_test_threads.proofs.session.asked.Goals as goal

pub new-session-requires-clause-known : goal.new-session-requires-clause-known
new-session-requires-clause-known g c = c.new-versions.ensures.known _ _
