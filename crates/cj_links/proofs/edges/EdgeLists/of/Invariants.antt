use Rattle.std.proofs.Common.{◌≡◌, take}
use Rattle.cj_links.specs.EdgeTable.{edge_table, lists_into, IsWoven}
use Rattle.cj_links.proofs.edges.EdgeLists.of.Given as goal

abbrev pub invariant-loop-at : goal.invariant-loop-at
invariant-loop-at l = record {
  lists : l.lists ≡ edge_table l.edges (lists_into l.labels (take l.at l.edges));
  woven : IsWoven l.lists;
}
