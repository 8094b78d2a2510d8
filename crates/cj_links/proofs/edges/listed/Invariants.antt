use Rattle.std.proofs.Common.{◌≡◌, take}
use Rattle.cj_links.proofs.edges.listed.Given as goal

abbrev pub invariant-loop-edge : goal.invariant-loop-edge
invariant-loop-edge l = l.list ≡ take l.edge-index l.edges
