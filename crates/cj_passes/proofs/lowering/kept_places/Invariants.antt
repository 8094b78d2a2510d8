use Rattle.std.proofs.Common.{◌≡◌, ◌++◌, map, drop, reverse}
use Rattle.cj_rows.specs.Edges.{led_place}
use Rattle.cj_rows.specs.Tables.{given}
use Rattle.cj_passes.specs.Lowering.{kept_of}
use Rattle.cj_passes.proofs.lowering.kept_places.Given as goal

abbrev pub invariant-loop-keeps : goal.invariant-loop-keeps
invariant-loop-keeps l =
    l.made ++ map (led_place (given l.table)) (kept_of (drop l.keeps-index l.kept) (reverse l.rest))
    ≡ map (led_place (given l.table)) (kept_of l.kept l.fn.places)
