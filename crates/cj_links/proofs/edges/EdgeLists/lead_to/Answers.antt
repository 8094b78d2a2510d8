use Rattle.std.proofs.Common.{◌<◌, length, sym, subst}
use Rattle.cj_links.specs.EdgeTable.{EdgeTable, IsLinked}
use Rattle.cj_links.specs.Threads.{walks, table_of}
use Rattle.cj_links.proofs.Threading.{lead_seen}
use Rattle.cj_links.proofs.edges.EdgeLists.lead_to.Goals as goal

pub invariant_of-self : goal.invariant_of-self
invariant_of-self c =
    let t = c.self.inside in
    let inside : c.args.edge.0 < length t.edges = subst (λ (v : EdgeTable). c.args.edge.0 < length v.edges) (sym c.self.view_is) c.requires.edge in
    let label : c.args.label.0 < length (walks (length t.counts) t.nodes t.counts) = subst (λ (v : EdgeTable). c.args.label.0 < length v.lists)
    (sym c.self.view_is) c.requires.label in
    let free : IsLinked (table_of t.nodes t.counts t.edges) c.args.edge →
    ⊥ = λ h. c.requires.free (subst (λ (v : EdgeTable). IsLinked v c.args.edge) c.self.view_is h) in
    let made = lead_seen t.nodes t.counts t.edges c.self.invariant c.args.edge c.args.label label inside free in
    rw (c.set.ensures, c.items.ensures) made.threaded

pub returns-clause-woven : goal.returns-clause-woven
returns-clause-woven c = (invariant_of-self c).woven
