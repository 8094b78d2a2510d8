use Rattle.std.proofs.Common.{◌≡◌, ◌++◌, length, map, reverse}
use Rattle.cj_rows.specs.Edges.{led_place}
use Rattle.cj_rows.specs.Tables.{given}
use Rattle.cj_anchor.proofs.anchors.led_places.Given as goal

abbrev pub invariant-loop-place : goal.invariant-loop-place
invariant-loop-place l = l.made ++ map (led_place (given l.table)) (reverse l.rest) ≡ map (led_place (given l.table)) l.fn.places

abbrev pub decreases-loop-place : goal.decreases-loop-place
decreases-loop-place l = length l.rest
