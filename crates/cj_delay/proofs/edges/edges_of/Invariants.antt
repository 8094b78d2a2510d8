use Rattle.std.proofs.Common.{◌≡◌, ◌++◌, drop}
use Rattle.cj_delay.specs.CountedEdges.{edges_of}
use Rattle.cj_delay.proofs.edges.edges_of.Given as goal

abbrev pub invariant-loop-at : goal.invariant-loop-at
invariant-loop-at l = l.edges ++ edges_of l.at (drop l.at l.places) ≡ edges_of 0 l.places
