use Rattle.std.proofs.Common.{◌+◌, length, sym, ap, ◌∙◌, subst}
use Rattle.cj_links.specs.EdgeTable.{EdgeTable, end_of, unlinked, IsLinked}
use Rattle.cj_links.specs.Threads.{after_of, before_of, walks, table_of}
use Rattle.cj_links.proofs.Threading.{unlink_seen, end_within, node_within, before_member, after_member}
use Rattle.cj_links.proofs.edges.EdgeLists.unlink.Goals as goal

pub lead-requires-clause-one : goal.lead-requires-clause-one
lead-requires-clause-one c =
    let t = c.self.inside in
    let linked : IsLinked (table_of t.nodes t.counts t.edges) c.args.edge = subst (λ (v : EdgeTable). IsLinked v c.args.edge) (sym c.self.view_is) c.requires in
    let n = (end_of (table_of t.nodes t.counts t.edges) c.args.edge).0 in
    let within = end_within t.nodes t.counts t.edges c.self.invariant c.args.edge linked in
    rw (c.items-3.ensures, c.items-2.ensures)
    (node_within (length t.counts) t.nodes t.counts t.edges (walks (length t.counts) t.nodes t.counts) c.self.invariant n
    (before_of t.nodes (length t.counts + c.args.edge.0)) within
    (before_member (length t.counts) t.nodes t.counts t.edges (walks (length t.counts) t.nodes t.counts) c.self.invariant n c.args.edge within linked))

pub lead-requires-clause-other : goal.lead-requires-clause-other
lead-requires-clause-other c =
    let t = c.self.inside in
    let linked : IsLinked (table_of t.nodes t.counts t.edges) c.args.edge = subst (λ (v : EdgeTable). IsLinked v c.args.edge) (sym c.self.view_is) c.requires in
    let n = (end_of (table_of t.nodes t.counts t.edges) c.args.edge).0 in
    let within = end_within t.nodes t.counts t.edges c.self.invariant c.args.edge linked in
    rw (c.items-3.ensures, c.items-2.ensures)
    (node_within (length t.counts) t.nodes t.counts t.edges (walks (length t.counts) t.nodes t.counts) c.self.invariant n
    (after_of t.nodes (length t.counts + c.args.edge.0)) within
    (after_member (length t.counts) t.nodes t.counts t.edges (walks (length t.counts) t.nodes t.counts) c.self.invariant n c.args.edge within linked))

pub invariant_of-self : goal.invariant_of-self
invariant_of-self c =
    let t = c.self.inside in
    let linked : IsLinked (table_of t.nodes t.counts t.edges) c.args.edge = subst (λ (v : EdgeTable). IsLinked v c.args.edge) (sym c.self.view_is) c.requires in
    let made = unlink_seen t.nodes t.counts t.edges c.self.invariant c.args.edge linked in
    rw (c.set.ensures, c.lead.ensures, c.items.ensures, c.items-2.ensures, c.items-3.ensures, c.items-4.ensures) made.threaded

pub returns-clause-lists : goal.returns-clause-lists
returns-clause-lists c =
    let t = c.self.inside in
    let linked : IsLinked (table_of t.nodes t.counts t.edges) c.args.edge = subst (λ (v : EdgeTable). IsLinked v c.args.edge) (sym c.self.view_is) c.requires in
    let made = unlink_seen t.nodes t.counts t.edges c.self.invariant c.args.edge linked in
    rw (c.set.ensures, c.lead.ensures, c.items.ensures, c.items-2.ensures, c.items-3.ensures, c.items-4.ensures)
    (made.view ∙ ap (λ (v : EdgeTable). unlinked v c.args.edge) c.self.view_is)

pub returns-clause-woven : goal.returns-clause-woven
returns-clause-woven c = (invariant_of-self c).woven
