use Rattle.std.proofs.Common.{◌≡◌, ◌+◌, Some, length, sym, ap, ◌∙◌, subst}
use Rattle.std.specs.Prelude.{slice_get}
use Rattle.cj_links.specs.EdgeTable.{EdgeTable, end_of, list_of, IsLinked}
use Rattle.cj_links.specs.Threads.{walks, table_of}
use Rattle.cj_links.proofs.Threading.{end_within, next_within, next_edge}
use Rattle.cj_links.proofs.edges.EdgeLists.next.Goals as goal

pub edge_at-requires : goal.edge_at-requires
edge_at-requires c =
    let t = c.self.inside in
    let linked : IsLinked (table_of t.nodes t.counts t.edges) c.args.edge = subst (λ (v : EdgeTable). IsLinked v c.args.edge) (sym c.self.view_is) c.requires in
    let n = (end_of (table_of t.nodes t.counts t.edges) c.args.edge).0 in
    let within = end_within t.nodes t.counts t.edges c.self.invariant c.args.edge linked in
    rw (c.items-labels.ensures, c.items.ensures)
    (next_within (length t.counts) t.nodes t.counts t.edges (walks (length t.counts) t.nodes t.counts) c.self.invariant n c.args.edge within linked)

pub returns : goal.returns
returns c = λ k at.
    let t = c.self.inside in
    let linked : IsLinked (table_of t.nodes t.counts t.edges) c.args.edge = subst (λ (v : EdgeTable). IsLinked v c.args.edge) (sym c.self.view_is) c.requires in
    let n = (end_of (table_of t.nodes t.counts t.edges) c.args.edge).0 in
    let within = end_within t.nodes t.counts t.edges c.self.invariant c.args.edge linked in
    let at' = subst (λ (v : EdgeTable). slice_get (list_of v (end_of v c.args.edge)) k ≡ Some c.args.edge) (sym c.self.view_is) at in
    rw (c.edge_at.ensures, c.items-labels.ensures, c.items.ensures)
    (next_edge (length t.counts) t.nodes t.counts t.edges (walks (length t.counts) t.nodes t.counts) c.self.invariant n k c.args.edge within at'
    ∙ ap (λ (v : EdgeTable). slice_get (list_of v (end_of v c.args.edge)) (k + 1)) c.self.view_is)
