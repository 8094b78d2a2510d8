use Rattle.cj_base.specs.Run.{begun}
use Rattle.cj_session.proofs.Ran.{ran_if, ran_out_if}
use Rattle.cj_session.proofs.session.Session.run.Goals as goal

pub returns-clause-ran : goal.returns-clause-ran
unfolding begun
returns-clause-ran c =
    ran_if _ _ _ (λ r. r) c.run.result c.run.ensures.keeps.ready c.run.ensures.keeps.stays
    c.run.ensures.looked c.run.ensures.report c.run.ensures.headline c.run.ensures.went

pub returns-clause-ran_out : goal.returns-clause-ran_out
unfolding begun
returns-clause-ran_out c =
    ran_out_if _ _ _ c.run.result c.run.ensures.keeps.ready c.run.ensures.keeps.stays c.run.ensures.stopped
