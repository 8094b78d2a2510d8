use Rattle.std.proofs.Common.{lit<}
use Rattle.cj_test_passes.proofs.links.a_label_waits_once.Goals as goal

pub put-requires : goal.put-requires
put-requires c c' = rw c'.in_ok-list.ensures.list (lit< tt)

pub put-requires-2 : goal.put-requires-2
put-requires-2 c c' = rw (c'.put.ensures.labels, c'.in_ok-list.ensures.list) (lit< tt)
