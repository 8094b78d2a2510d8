use Rattle.cj_engine.specs.Engines.{begun_with}
use Rattle.cj_engine.specs.declared.engine.Ran.{Ran}
use Rattle.cj_session.proofs.Ran.{ran_if, ran_out_if, memory_if}
use Rattle.cj_session.proofs.session.Session.run_from.Goals as goal

pub returns-clause-ran : goal.returns-clause-ran
unfolding begun_with
returns-clause-ran c =
    ran_if _ _ _ (λ (made : Ran). made.report) c.run_from.result c.run_from.ensures.keeps.ready c.run_from.ensures.keeps.stays
    c.run_from.ensures.looked c.run_from.ensures.report c.run_from.ensures.headline c.run_from.ensures.went

pub returns-clause-memory : goal.returns-clause-memory
returns-clause-memory c =
    memory_if _ c.args.self.now c.run_from.new.watch c.run_from.result c.run_from.ensures.keeps.ready c.run_from.ensures.memory

pub returns-clause-ran_out : goal.returns-clause-ran_out
unfolding begun_with
returns-clause-ran_out c =
    ran_out_if _ _ _ c.run_from.result c.run_from.ensures.keeps.ready c.run_from.ensures.keeps.stays c.run_from.ensures.stopped
