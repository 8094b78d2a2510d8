use Rattle.std.proofs.Common.{lit<}
use Rattle.cj_test_passes.proofs.links.labels_wait_in_the_order_in_which_they_came.Goals as goal

pub put-requires : goal.put-requires
put-requires c c' = rw c'.in_ok-list.ensures.list (lit< tt)

pub put-requires-2 : goal.put-requires-2
put-requires-2 c c' = rw (c'.put.ensures.labels, c'.in_ok-list.ensures.list) (lit< tt)

pub put-requires-3 : goal.put-requires-3
put-requires-3 c c' = rw (c'.take.ensures.rest, c'.put-2.ensures.labels, c'.put.ensures.labels, c'.in_ok-list.ensures.list) (lit< tt)
