use Rattle.std.proofs.Common.{sym}
use Rattle.cj_delay.specs.CountedEdges.{edges_of}
use Rattle.cj_delay.proofs.Counted.{edges_more, edges_end}
use Rattle.cj_delay.proofs.edges.edges_of.Goals as goal

pub returns : goal.returns
returns c = edges_end c.args.places.now c.loop-at.at c.loop-at.edges (edges_of 0 c.args.places.now) c.loop-at-test.false c.loop-at.invariant

pub loop-at-preserved : goal.loop-at-preserved
loop-at-preserved c =
    edges_more c.args.places.now c.loop-at.at c.index-places-at.result c.loop-at.edges c.push_edges.new.edges (edges_of 0 c.args.places.now)
    c.loop-at-test.true (sym c.index-places-at.is) c.loop-at.invariant c.in_ok-push_edges.ensures
