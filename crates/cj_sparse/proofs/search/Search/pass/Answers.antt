use Rattle.std.proofs.Common.{◌∷◌, sym, subst}
use Rattle.std.specs.Prelude.{OnOk}
use Rattle.cj_ir.specs.declared.language.Label.{Label}
use Rattle.cj_sparse.specs.declared.search.Work.{Work}
use Rattle.cj_sparse.specs.Losses.{IsPassed}
use Rattle.cj_sparse.proofs.SearchCalls.{item-is}
use Rattle.cj_sparse.proofs.search.Search.pass.Goals as goal

pub pass_loss-requires-clause-rests : goal.pass_loss-requires-clause-rests
pass_loss-requires-clause-rests c =
    let code = c.args.draft.now.code in
    let rows = c.args.self.now.rows.items in
    let work = c.args.self.now.work.items in
    let at = c.label-label.result in
    subst (λ (x : Work). IsPassed code rows (x ∷ work) at c.args.to) (item-is c.args.item c.in-Lost.label c.in-Lost.reg at c.in-Lost.is c.label-label.ensures)
    (subst (λ (l : Label). IsPassed code rows (c.args.item ∷ work) l c.args.to) (sym c.label-label.ensures) c.requires.rests)

pub returns-then-not-reads-clause-passed : goal.returns-then-not-reads-clause-passed
returns-then-not-reads-clause-passed c =
    subst (λ (l : Label). OnOk c.pass_loss.result (IsPassed c.args.draft.now.code c.pass_loss.new.self.rows.items c.pass_loss.new.self.work.items l c.args.to))
    c.label-label.ensures c.pass_loss.ensures.passed

pub returns-clause-passed : goal.returns-clause-passed
returns-clause-passed c =
    subst (λ (l : Label). OnOk c.pass_all.result (IsPassed c.args.draft.now.code c.pass_all.new.self.rows.items c.pass_all.new.self.work.items l c.args.to))
    c.label-label.ensures c.pass_all.ensures.passed
