use Rattle.std.proofs.Common.{◌≡◌, map, take}
use Rattle.cj_links.specs.UseTable.{edge_along}
use Rattle.cj_links.proofs.uses.edges_of.Given as goal

abbrev pub invariant-loop-used : goal.invariant-loop-used
invariant-loop-used l = l.edges ≡ map edge_along (take l.used-index l.uses)
