use Rattle.std.proofs.Common.{lit<, refl}
use Rattle.cj_test_passes.proofs.links.edges_into_a_label_in_order.Goals as goal

pub count-requires : goal.count-requires
count-requires c c' = rw c'.in_ok-lists.ensures (lit< tt)

pub first-requires : goal.first-requires
first-requires c c' = rw c'.in_ok-lists.ensures (lit< tt)

pub next-requires : goal.next-requires
next-requires c c' = rw c'.in_ok-lists.ensures (0, lit< tt, refl)

pub next-requires-2 : goal.next-requires-2
next-requires-2 c c' = rw c'.in_ok-lists.ensures (1, lit< tt, refl)
