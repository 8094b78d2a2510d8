use Rattle.std.proofs.Common.{subst, [], ◌∷◌}
use Rattle.std.specs.Prelude.{All}
use Rattle.std.proofs.lemmas.List.Elements.{All-head, All-tail}
use Rattle.cj_draft.specs.Edges.{listed}
use Rattle.cj_draft.specs.declared.edges.Successors.{Successors}
use Rattle.cj_const.specs.Search.{IsEdge, IsFollowing}
use Rattle.cj_const.proofs.SearchCalls.{begun-of}
use Rattle.cj_const.proofs.search.Search.pass_all.Goals as goal

pub pass-requires-in-Two-clause-edge : goal.pass-requires-in-Two-clause-edge
pass-requires-in-Two-clause-edge c =
    let code = c.args.draft.now.code in
    let edges = subst (λ (ns : Successors). All (IsEdge code c.args.label) (listed ns)) c.in-Two.is c.requires.edges in
    All-head (IsEdge code c.args.label) c.in-Two.then_to (c.in-Two.else_to ∷ []) edges

pub pass-requires-in-Two-2-clause-edge : goal.pass-requires-in-Two-2-clause-edge
pass-requires-in-Two-2-clause-edge c =
    let code = c.args.draft.now.code in
    let edges = subst (λ (ns : Successors). All (IsEdge code c.args.label) (listed ns)) c.in-Two.is c.requires.edges in
    All-head (IsEdge code c.args.label) c.in-Two.else_to [] (All-tail (IsEdge code c.args.label) c.in-Two.then_to (c.in-Two.else_to ∷ []) edges)

pub pass-requires-in-Two-2-clause-begun : goal.pass-requires-in-Two-2-clause-begun
pass-requires-in-Two-2-clause-begun c =
    let draft = c.args.draft.now in
    let all = subst (λ (ns : Successors). IsFollowing draft.context draft.code c.args.self.now.rows c.args.self.now.waiting c.args.label (listed ns))
    c.in-Two.is c.requires.following in
    begun-of draft.context draft.code c.pass-in-Two.new.self.rows c.pass-in-Two.new.self.waiting c.args.label (c.in-Two.else_to ∷ [])
    (c.in_ok-pass-in-Two.ensures.passed (c.in-Two.else_to ∷ []) all)

pub returns-in_ok-pass-in-One-clause-passed : goal.returns-in_ok-pass-in-One-clause-passed
returns-in_ok-pass-in-One-clause-passed c =
    let draft = c.args.draft.now in
    let all = subst (λ (ns : Successors). IsFollowing draft.context draft.code c.args.self.now.rows c.args.self.now.waiting c.args.label (listed ns))
    c.in-One.is c.requires.following in
    c.in_ok-pass-in-One.ensures.passed [] all

pub returns-in_ok-pass-in-Two-2-clause-passed : goal.returns-in_ok-pass-in-Two-2-clause-passed
returns-in_ok-pass-in-Two-2-clause-passed c =
    let draft = c.args.draft.now in
    let all = subst (λ (ns : Successors). IsFollowing draft.context draft.code c.args.self.now.rows c.args.self.now.waiting c.args.label (listed ns))
    c.in-Two.is c.requires.following in
    c.in_ok-pass-in-Two-2.ensures.passed [] (c.in_ok-pass-in-Two.ensures.passed (c.in-Two.else_to ∷ []) all)
