use Rattle.cj_sparse.specs.Losses.{GoesOn, AreMet}
use Rattle.cj_sparse.proofs.search.Search.arrive.Given as goal

abbrev pub invariant-loop-reg : goal.invariant-loop-reg
invariant-loop-reg l = record {
  goes : GoesOn l.draft.context l.draft.code l.initial.self.rows.items l.initial.self.work.items l.self.rows.items l.self.work.items;
  met : AreMet l.self.rows.items l.to l.fn.arrival l.reg;
}
