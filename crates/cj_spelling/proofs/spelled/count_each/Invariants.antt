use Rattle.std.proofs.Common.{◌≡◌, ◌+◌, length, take}
use Rattle.std.specs.List.{flat_map}
use Rattle.cj_spelling.specs.Counting.{capped}
use Rattle.cj_spelling.proofs.spelled.count_each.Given as goal

abbrev pub invariant-each : goal.invariant-each
invariant-each g l =
    l.count ≡ capped (l.fn.so_far + length (flat_map g.T.Spelled.words_of (take l.item-index l.items)))
