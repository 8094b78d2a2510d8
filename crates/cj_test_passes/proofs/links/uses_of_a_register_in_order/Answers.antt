use Rattle.std.proofs.Common.{lit<, refl}
use Rattle.cj_test_passes.proofs.links.uses_of_a_register_in_order.Goals as goal

pub count-requires : goal.count-requires
count-requires c c' = rw c'.in_ok-lists.ensures (lit< tt)

pub first-requires : goal.first-requires
first-requires c c' = rw c'.in_ok-lists.ensures (lit< tt)

pub next-requires : goal.next-requires
next-requires c c' = rw c'.in_ok-lists.ensures (0, lit< tt, refl)

pub label-requires : goal.label-requires
label-requires c c' = rw c'.in_ok-lists.ensures (lit< tt)
