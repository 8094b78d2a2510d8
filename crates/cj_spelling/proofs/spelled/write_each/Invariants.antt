use Rattle.std.proofs.Common.{◌≡◌, ◌++◌, All, take}
use Rattle.std.specs.List.{flat_map}
use Rattle.cj_spelling.proofs.spelled.write_each.Given as goal

abbrev pub invariant-each : goal.invariant-each
invariant-each g l =
    (l.out ≡ l.fn.out ++ flat_map g.T.Spelled.words_of (take l.item-index l.items)) × All g.T.Spelled.has_values (take l.item-index l.items)
