use Rattle.std.proofs.Common.{subst, sym, [], ◌∷◌}
use Rattle.std.specs.Prelude.{All}
use Rattle.std.proofs.lemmas.List.Elements.{All-head, All-tail, All-cons, All-nil}
use Rattle.cj_draft.specs.Edges.{listed}
use Rattle.cj_draft.specs.declared.edges.Successors.{Successors}
use Rattle.cj_sparse.specs.Losses.{label_of, IsPassed}
use Rattle.cj_sparse.proofs.Lowering.{goes-trans}
use Rattle.cj_sparse.proofs.SearchCalls.{passed-lowered, cons-lowers}
use Rattle.cj_sparse.proofs.search.Search.follow.Goals as goal

pub pass-requires-clause-rests : goal.pass-requires-clause-rests
pass-requires-clause-rests c =
    let P = IsPassed c.args.draft.now.code c.args.self.now.rows.items (c.args.item ∷ c.args.self.now.work.items) (label_of c.args.item) in
    All-head P c.in-One.next [] (subst (λ (ns : Successors). All P (listed ns)) c.in-One.is c.requires.rest)

pub pass-requires-in-Two-clause-rests : goal.pass-requires-in-Two-clause-rests
pass-requires-in-Two-clause-rests c =
    let P = IsPassed c.args.draft.now.code c.args.self.now.rows.items (c.args.item ∷ c.args.self.now.work.items) (label_of c.args.item) in
    All-head P c.in-Two.then_to (c.in-Two.else_to ∷ []) (subst (λ (ns : Successors). All P (listed ns)) c.in-Two.is c.requires.rest)

pub pass-requires-in-Two-2-clause-rests : goal.pass-requires-in-Two-2-clause-rests
pass-requires-in-Two-2-clause-rests c =
    let item = c.args.item in
    let old = c.args.self.now in
    let new = c.pass-in-Two.new.self in
    let P = IsPassed c.args.draft.now.code old.rows.items (item ∷ old.work.items) (label_of item) in
    let rest = All-tail P c.in-Two.then_to (c.in-Two.else_to ∷ []) (subst (λ (ns : Successors). All P (listed ns)) c.in-Two.is c.requires.rest) in
    passed-lowered c.args.draft.now.code old.rows.items new.rows.items (item ∷ old.work.items) (item ∷ new.work.items) (label_of item) c.in-Two.else_to
    (cons-lowers old.rows.items new.rows.items old.work.items new.work.items item c.in_ok-pass-in-Two.ensures.goes.lowers)
    (All-head P c.in-Two.else_to [] rest)

pub returns-in_ok-pass-in-One-clause-passed : goal.returns-in_ok-pass-in-One-clause-passed
returns-in_ok-pass-in-One-clause-passed c =
    let P = IsPassed c.args.draft.now.code c.pass.new.self.rows.items c.pass.new.self.work.items (label_of c.args.item) in
    subst (λ (ns : Successors). All P (listed ns)) (sym c.in-One.is) (All-cons P c.in-One.next [] c.in_ok-pass-in-One.ensures.passed (All-nil P))

pub returns-in_ok-pass-in-Two-2-clause-goes : goal.returns-in_ok-pass-in-Two-2-clause-goes
returns-in_ok-pass-in-Two-2-clause-goes c =
    let draft = c.args.draft.now in
    let old = c.args.self.now in
    let one = c.pass-in-Two.new.self in
    let two = c.pass-in-Two-2.new.self in
    goes-trans draft.context draft.code old.rows.items one.rows.items two.rows.items old.work.items one.work.items two.work.items
    c.in_ok-pass-in-Two.ensures.goes c.in_ok-pass-in-Two-2.ensures.goes

pub returns-in_ok-pass-in-Two-2-clause-passed : goal.returns-in_ok-pass-in-Two-2-clause-passed
returns-in_ok-pass-in-Two-2-clause-passed c =
    let code = c.args.draft.now.code in
    let one = c.pass-in-Two.new.self in
    let two = c.pass-in-Two-2.new.self in
    let label = label_of c.args.item in
    let P = IsPassed code two.rows.items two.work.items label in
    let first = passed-lowered code one.rows.items two.rows.items one.work.items two.work.items label c.in-Two.then_to
    c.in_ok-pass-in-Two-2.ensures.goes.lowers c.in_ok-pass-in-Two.ensures.passed in
    subst (λ (ns : Successors). All P (listed ns)) (sym c.in-Two.is)
    (All-cons P c.in-Two.then_to (c.in-Two.else_to ∷ []) first (All-cons P c.in-Two.else_to [] c.in_ok-pass-in-Two-2.ensures.passed (All-nil P)))
