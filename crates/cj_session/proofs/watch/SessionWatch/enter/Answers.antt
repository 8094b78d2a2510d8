use Rattle.std.proofs.Common.{refl}
use Rattle.cj_session.proofs.Going.{went_found, told_found, if_ok, stays_by}
use Rattle.cj_session.proofs.watch.SessionWatch.enter.Goals as goal

pub returns-clause-went : goal.returns-clause-went
returns-clause-went c =
    if_ok c.find.result
    (went_found _ _ c.args.f c.args.args.now c.find.result
    c.find.ensures.looks c.find.ensures.looked c.find.ensures.no_memory c.count_entry.ensures.part)

pub returns-clause-no_memory : goal.returns-clause-no_memory
returns-clause-no_memory c =
    told_found _ _ c.args.f c.args.args.now c.find.result c.find.ensures.no_memory
    (went_found _ _ c.args.f c.args.args.now c.find.result
    c.find.ensures.looks c.find.ensures.looked c.find.ensures.no_memory c.count_entry.ensures.part)

pub returns-clause-stays : goal.returns-clause-stays
returns-clause-stays c =
    stays_by _ _ _ refl refl refl c.find.ensures.same c.count_entry.ensures.same c.find.ensures.looks
    (went_found _ _ c.args.f c.args.args.now c.find.result
    c.find.ensures.looks c.find.ensures.looked c.find.ensures.no_memory c.count_entry.ensures.part)
