use Rattle.std.proofs.Common.{lit<, refl}
use Rattle.cj_test_passes.proofs.links.an_unlinked_use_is_gone.Goals as goal

pub unlink-requires : goal.unlink-requires
unlink-requires c c' = rw c'.in_ok-lists.ensures (0, lit< tt, refl)

pub first-requires : goal.first-requires
first-requires c c' = rw (c'.unlink.ensures, c'.in_ok-lists.ensures) (lit< tt)

pub count-requires : goal.count-requires
count-requires c c' = rw (c'.unlink.ensures, c'.in_ok-lists.ensures) (lit< tt)
