use Rattle.std.proofs.Common.{◌≡◌, ◌∙◌, ℕ, List, length, ap, sym, subst, arith}
use Rattle.std.specs.Prelude.{All}
use Rattle.cj_draft.specs.declared.code.Place.{Place}
use Rattle.cj_links.specs.EdgeTable.{given, IsInto}
use Rattle.cj_delay.specs.CountedEdges.{edges_of}
use Rattle.cj_delay.proofs.Counted.{few_edges, edges_into_labels, are_counted}
use Rattle.cj_delay.proofs.edges.edge_lists.Goals as goal

edges_are : (c : goal.After-items-3) → c.items-3.result.now ≡ edges_of 0 c.args.code.now.places
edges_are c = c.items-3.ensures ∙ c.in_ok-edges.ensures ∙ ap (edges_of 0) c.items.ensures

pub of-requires-clause-few : goal.of-requires-clause-few
of-requires-clause-few c = omega (arith, ap length (edges_are c), few_edges 0 c.args.code.now.places, c.requires.few)

pub of-requires-clause-into : goal.of-requires-clause-into
of-requires-clause-into c =
    let places = c.args.code.now.places in
    let into = edges_into_labels (length places) 0 places c.requires.closed.within in
    subst (λ (n : ℕ). All (IsInto n) c.items-3.result.now) (ap length (sym c.items-2.ensures))
    (subst (All (IsInto (length places))) (sym (edges_are c)) into)

pub returns : goal.returns
returns c =
    are_counted c.args.code.now c.in_ok-lists.lists
    (c.in_ok-lists.ensures.lists ∙ ap (λ (ps : List Place). given (length ps) c.items-3.result.now) c.items-2.ensures
    ∙ ap (given (length c.args.code.now.places)) (c.items-3.ensures ∙ c.in_ok-edges.ensures ∙ ap (edges_of 0) c.items.ensures))
