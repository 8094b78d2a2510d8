use Rattle.std.proofs.Common.{[]}
use Rattle.cj_links.specs.EdgeTable.{lists_into}
use Rattle.cj_links.proofs.Threading.{seen}
use Rattle.cj_links.proofs.Giving.{none_threaded}
use Rattle.cj_links.proofs.edges.EdgeLists.apart.Goals as goal

pub invariant_of-result : goal.invariant_of-result
invariant_of-result c =
    let made = seen c.args.labels _ _ c.args.edges.now (lists_into c.args.labels [])
    (none_threaded c.args.labels c.args.edges.now c.requires.into c.requires.few) in
    rw (c.in_ok-nodes.ensures, c.in_ok-counts.ensures, c.in_ok-edges.ensures) made.threaded

pub returns-clause-lists : goal.returns-clause-lists
returns-clause-lists c =
    let made = seen c.args.labels _ _ c.args.edges.now (lists_into c.args.labels [])
    (none_threaded c.args.labels c.args.edges.now c.requires.into c.requires.few) in
    rw (c.in_ok-nodes.ensures, c.in_ok-counts.ensures, c.in_ok-edges.ensures) made.view

pub returns-clause-woven : goal.returns-clause-woven
returns-clause-woven c = (invariant_of-result c).woven
