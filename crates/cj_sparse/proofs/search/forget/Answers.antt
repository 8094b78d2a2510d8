use Rattle.cj_sparse.proofs.SearchCalls.{forget-none, forget-inside}
use Rattle.cj_sparse.proofs.search.forget.Goals as goal

pub returns-in_default-clause-kept : goal.returns-in_default-clause-kept
returns-in_default-clause-kept c = λ no_.
    forget-none c.args.rows.now.items c.args.label c.args.reg.0 c.args.other c.index_mut.result.now c.requires c.index_mut.ensures.value c.in_default.is

pub set-requires : goal.set-requires
set-requires c =
    forget-inside c.in-Some.row c.items.result.now c.args.reg.0 c.known.result c.args.other c.agrees.result c.known.ensures c.items.ensures c.agrees.ensures
    c.if-agrees.false
