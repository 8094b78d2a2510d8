use Rattle.std.proofs.Common.{refl}
use Rattle.cj_session.specs.Sessions.{entered_in}
use Rattle.cj_session.proofs.Going.{went_by, stays_beside}
use Rattle.cj_session.proofs.watch.SessionWatch.failed.Goals as goal

pub returns-clause-went : goal.returns-clause-went
unfolding entered_in
returns-clause-went c = went_by _ _ _ refl refl c.count_failure.ensures.part

pub returns-clause-stays : goal.returns-clause-stays
returns-clause-stays c = stays_beside _ _ _ refl refl refl refl c.count_failure.ensures.same (returns-clause-went c)
