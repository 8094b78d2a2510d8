use Rattle.std.proofs.Common.{◌<◌, length, sym, ap, ◌∙◌, subst, arith}
use Rattle.std.specs.Prelude.{slice_get}
use Rattle.cj_links.specs.EdgeTable.{EdgeTable, list_of}
use Rattle.cj_links.specs.Threads.{walks}
use Rattle.cj_links.proofs.Threading.{first_within, first_edge}
use Rattle.cj_links.proofs.edges.EdgeLists.first.Goals as goal

pub edge_at-requires : goal.edge_at-requires
edge_at-requires c =
    let t = c.self.inside in
    let within : c.args.label.0 < length (walks (length t.counts) t.nodes t.counts) = subst (λ (v : EdgeTable). c.args.label.0 < length v.lists)
    (sym c.self.view_is) c.requires in
    let h = c.self.invariant.lists_of in
    rw (c.items.ensures, c.items-2.ensures)
    (first_within (length t.counts) t.nodes t.counts t.edges (walks (length t.counts) t.nodes t.counts) c.self.invariant c.args.label.0
    (omega (arith, within, h)))

pub returns : goal.returns
returns c =
    let t = c.self.inside in
    let within : c.args.label.0 < length (walks (length t.counts) t.nodes t.counts) = subst (λ (v : EdgeTable). c.args.label.0 < length v.lists)
    (sym c.self.view_is) c.requires in
    let h = c.self.invariant.lists_of in
    rw (c.edge_at.ensures, c.items.ensures, c.items-2.ensures)
    (first_edge (length t.counts) t.nodes t.counts t.edges (walks (length t.counts) t.nodes t.counts) c.self.invariant c.args.label.0 (omega (arith, within, h))
    ∙ ap (λ (v : EdgeTable). slice_get (list_of v c.args.label) 0) c.self.view_is)
