use Rattle.std.proofs.Common.{lit<, refl}
use Rattle.cj_test_passes.proofs.links.a_moved_edge_is_the_last.Goals as goal

pub move_to-requires-clause-linked : goal.move_to-requires-clause-linked
move_to-requires-clause-linked c c' = rw c'.in_ok-lists.ensures (0, lit< tt, refl)

pub move_to-requires-clause-label : goal.move_to-requires-clause-label
move_to-requires-clause-label c c' = rw c'.in_ok-lists.ensures (lit< tt)

pub edge-requires : goal.edge-requires
edge-requires c c' = rw (c'.move_to.ensures.lists, c'.in_ok-lists.ensures) (lit< tt)

pub next-requires : goal.next-requires
next-requires c c' = rw (c'.move_to.ensures.lists, c'.in_ok-lists.ensures) (1, lit< tt, refl)

pub count-requires : goal.count-requires
count-requires c c' = rw (c'.move_to.ensures.lists, c'.in_ok-lists.ensures) (lit< tt)

pub first-requires : goal.first-requires
first-requires c c' = rw (c'.move_to.ensures.lists, c'.in_ok-lists.ensures) (lit< tt)
