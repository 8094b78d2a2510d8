use Rattle.cj_alone.proofs.rounds.run_round.Goals as goal

pub returns-clause-known : goal.returns-clause-known
returns-clause-known c = c.later_views_know_the_versions.ensures _ _ _ c.in_ok-report.versions c.in_ok-report.ensures.known
    c.in_ok-note.ensures.worked.works.learns
