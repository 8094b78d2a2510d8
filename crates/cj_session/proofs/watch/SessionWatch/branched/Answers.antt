use Rattle.std.proofs.Common.{refl}
use Rattle.cj_session.specs.Sessions.{entered_in}
use Rattle.cj_session.proofs.Going.{went_by, stays_beside}
use Rattle.cj_session.proofs.watch.SessionWatch.branched.Goals as goal

pub returns-clause-went : goal.returns-clause-went
unfolding entered_in
returns-clause-went c = let h = c.branched.ensures.reads in went_by _ _ _ refl refl (_, (h.0, refl), h.2)

pub returns-clause-stays : goal.returns-clause-stays
returns-clause-stays c = stays_beside _ _ _ refl refl refl refl c.branched.ensures.same (returns-clause-went c)
