use Rattle.std.proofs.Common.{◌≡◌, ◌<◌, length, sym, ap, ◌∙◌, subst, arith}
use Rattle.cj_links.specs.EdgeTable.{EdgeTable, end_of, unlinked, IsLinked}
use Rattle.cj_links.specs.Threads.{walks, table_of}
use Rattle.std.proofs.Common.{length-set}
use Rattle.cj_links.proofs.Threading.{edge_within, unlinked_free, led_free}
use Rattle.cj_links.proofs.edges.EdgeLists.move_to.Goals as goal

pub lead_to-requires-clause-edge : goal.lead_to-requires-clause-edge
lead_to-requires-clause-edge c =
    let t = c.self.inside in
    let linked : IsLinked (table_of t.nodes t.counts t.edges) c.args.edge = subst (λ (v : EdgeTable). IsLinked v c.args.edge)
    (sym c.self.view_is) c.requires.linked in
    let inside : c.args.edge.0
    < length t.edges = edge_within (length t.counts) t.nodes t.counts t.edges (walks (length t.counts) t.nodes t.counts) c.self.invariant
    (end_of (table_of t.nodes t.counts t.edges) c.args.edge) c.args.edge linked in
    let same : length c.unlink.new.self.edges
    ≡ length t.edges = ap (λ (v : EdgeTable). length v.edges)
    (c.unlink.ensures.lists ∙ ap (λ (v : EdgeTable). unlinked v c.args.edge) (sym c.self.view_is)) in
    omega (arith, inside, same)

pub lead_to-requires-clause-free : goal.lead_to-requires-clause-free
lead_to-requires-clause-free c = λ h.
    unlinked_free c.args.self.now c.args.edge c.requires.linked (subst (λ (v : EdgeTable). IsLinked v c.args.edge) c.unlink.ensures.lists h)

pub link-requires-clause-edge : goal.link-requires-clause-edge
link-requires-clause-edge c =
    let t = c.self.inside in
    let linked : IsLinked (table_of t.nodes t.counts t.edges) c.args.edge = subst (λ (v : EdgeTable). IsLinked v c.args.edge)
    (sym c.self.view_is) c.requires.linked in
    let inside : c.args.edge.0
    < length t.edges = edge_within (length t.counts) t.nodes t.counts t.edges (walks (length t.counts) t.nodes t.counts) c.self.invariant
    (end_of (table_of t.nodes t.counts t.edges) c.args.edge) c.args.edge linked in
    let same : length c.unlink.new.self.edges
    ≡ length t.edges = ap (λ (v : EdgeTable). length v.edges)
    (c.unlink.ensures.lists ∙ ap (λ (v : EdgeTable). unlinked v c.args.edge) (sym c.self.view_is)) in
    let led : length c.lead_to.new.self.edges ≡ length c.unlink.new.self.edges = ap (λ (v : EdgeTable). length v.edges) c.lead_to.ensures.lists
    ∙ length-set c.unlink.new.self.edges c.args.edge.0 _ in
    omega (arith, inside, same, led)

pub link-requires-clause-free : goal.link-requires-clause-free
link-requires-clause-free c = λ h.
    let t = c.self.inside in
    let linked : IsLinked (table_of t.nodes t.counts t.edges) c.args.edge = subst (λ (v : EdgeTable). IsLinked v c.args.edge)
    (sym c.self.view_is) c.requires.linked in
    let inside : c.args.edge.0
    < length t.edges = edge_within (length t.counts) t.nodes t.counts t.edges (walks (length t.counts) t.nodes t.counts) c.self.invariant
    (end_of (table_of t.nodes t.counts t.edges) c.args.edge) c.args.edge linked in
    let same : length c.unlink.new.self.edges
    ≡ length t.edges = ap (λ (v : EdgeTable). length v.edges)
    (c.unlink.ensures.lists ∙ ap (λ (v : EdgeTable). unlinked v c.args.edge) (sym c.self.view_is)) in
    let free : IsLinked c.unlink.new.self c.args.edge →
    ⊥ = λ k. unlinked_free c.args.self.now c.args.edge c.requires.linked (subst (λ (v : EdgeTable). IsLinked v c.args.edge) c.unlink.ensures.lists k) in
    led_free c.unlink.new.self c.args.edge c.args.label c.unlink.ensures.woven (omega (arith, inside, same)) free
    (subst (λ (v : EdgeTable). IsLinked v c.args.edge) c.lead_to.ensures.lists h)
