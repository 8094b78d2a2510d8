use Rattle.std.proofs.Common.{◌≡◌, map, take}
use Rattle.cj_inline.proofs.shifts.shifted_all.Given as goal

abbrev pub invariant-each : goal.invariant-each
invariant-each g l = l.made ≡ map (g.T.Shift.shift l.by) (take l.item-index l.items)
