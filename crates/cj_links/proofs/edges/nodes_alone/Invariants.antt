use Rattle.std.proofs.Common.{◌≡◌, map}
use Rattle.std.specs.List.{range_with_len}
use Rattle.cj_links.specs.Threads.{node}
use Rattle.cj_links.proofs.edges.nodes_alone.Given as goal

abbrev pub invariant-loop-at : goal.invariant-loop-at
invariant-loop-at l = l.nodes ≡ map (λ at. node at at) (range_with_len 0 l.at)
