use Rattle.std.proofs.Common.{◌∙◌, List, Option, map, sym, ap₂, subst}
use Rattle.std.specs.Prelude.{ℤ}
use Rattle.cj_draft.specs.declared.code.Code.{Code}
use Rattle.cj_const.specs.Flow.{IsStrongest}
use Rattle.cj_const.specs.Search.{facts_in}
use Rattle.cj_sparse.proofs.SearchEnds.{sparse-ends}
use Rattle.cj_sparse.proofs.search.strongest.Goals as goal

abbrev Row : Type 0
Row = List (Option ℤ)

pub returns : goal.returns
returns c =
    let draft = c.args.draft.now in
    let rows = c.step.new.self.rows.items in
    let work = c.step.new.self.work.items in
    subst (IsStrongest draft.context draft.code)
    (sym (c.in_ok-table.ensures ∙ ap₂ (λ (z : Code) (rs : List (Option Row)). map (facts_in z.regs) rs) c.code.ensures.same c.as_slice.ensures.value))
    (sparse-ends draft.context draft.code rows work c.in_ok-step.ensures.search (c.in_ok-step.ensures.done c.if-branch.false))
