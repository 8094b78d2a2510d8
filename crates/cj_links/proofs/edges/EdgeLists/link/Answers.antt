use Rattle.std.proofs.Common.{◌<◌, length, sym, ap, ◌∙◌, subst, arith}
use Rattle.cj_links.specs.EdgeTable.{EdgeTable, end_of, linked, IsLinked}
use Rattle.cj_links.specs.Threads.{before_of, walks, table_of}
use Rattle.cj_links.proofs.Threading.{link_seen, few_counted, into_labels, node_within, last_member}
use Rattle.cj_links.proofs.edges.EdgeLists.link.Goals as goal

pub lead-requires-clause-one : goal.lead-requires-clause-one
lead-requires-clause-one c =
    let t = c.self.inside in
    let inside : c.args.edge.0 < length t.edges = subst (λ (v : EdgeTable). c.args.edge.0 < length v.edges) (sym c.self.view_is) c.requires.edge in
    let n = (end_of (table_of t.nodes t.counts t.edges) c.args.edge).0 in
    let within = into_labels t.nodes t.counts t.edges c.self.invariant c.args.edge inside in
    rw (c.items-3.ensures, c.items.ensures)
    (node_within (length t.counts) t.nodes t.counts t.edges (walks (length t.counts) t.nodes t.counts) c.self.invariant n (before_of t.nodes n) within
    (last_member (length t.counts) t.nodes t.counts t.edges (walks (length t.counts) t.nodes t.counts) c.self.invariant n within))

pub overflow_add-count : goal.overflow_add-count
overflow_add-count c =
    let t = c.self.inside in
    let inside : c.args.edge.0 < length t.edges = subst (λ (v : EdgeTable). c.args.edge.0 < length v.edges) (sym c.self.view_is) c.requires.edge in
    let free : IsLinked (table_of t.nodes t.counts t.edges) c.args.edge →
    ⊥ = λ h. c.requires.free (subst (λ (v : EdgeTable). IsLinked v c.args.edge) c.self.view_is h) in
    let few = few_counted t.nodes t.counts t.edges c.self.invariant c.args.edge inside free in
    rw (c.items-4.ensures, c.items.ensures) (omega (arith, few))

pub invariant_of-self : goal.invariant_of-self
invariant_of-self c =
    let t = c.self.inside in
    let inside : c.args.edge.0 < length t.edges = subst (λ (v : EdgeTable). c.args.edge.0 < length v.edges) (sym c.self.view_is) c.requires.edge in
    let free : IsLinked (table_of t.nodes t.counts t.edges) c.args.edge →
    ⊥ = λ h. c.requires.free (subst (λ (v : EdgeTable). IsLinked v c.args.edge) c.self.view_is h) in
    let made = link_seen t.nodes t.counts t.edges c.self.invariant c.args.edge inside free in
    rw (c.set.ensures, c.lead-2.ensures, c.lead.ensures, c.items.ensures, c.items-2.ensures, c.items-3.ensures, c.items-4.ensures) made.threaded

pub returns-clause-lists : goal.returns-clause-lists
returns-clause-lists c =
    let t = c.self.inside in
    let inside : c.args.edge.0 < length t.edges = subst (λ (v : EdgeTable). c.args.edge.0 < length v.edges) (sym c.self.view_is) c.requires.edge in
    let free : IsLinked (table_of t.nodes t.counts t.edges) c.args.edge →
    ⊥ = λ h. c.requires.free (subst (λ (v : EdgeTable). IsLinked v c.args.edge) c.self.view_is h) in
    let made = link_seen t.nodes t.counts t.edges c.self.invariant c.args.edge inside free in
    rw (c.set.ensures, c.lead-2.ensures, c.lead.ensures, c.items.ensures, c.items-2.ensures, c.items-3.ensures, c.items-4.ensures)
    (made.view ∙ ap (λ (v : EdgeTable). linked v c.args.edge) c.self.view_is)

pub returns-clause-woven : goal.returns-clause-woven
returns-clause-woven c = (invariant_of-self c).woven
