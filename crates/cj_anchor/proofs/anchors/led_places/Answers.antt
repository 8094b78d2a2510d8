use Rattle.std.proofs.Common.{◌∙◌, List, [], ◌∷◌, ◌++◌, map, reverse, sym, ap, append_assoc}
use Rattle.cj_draft.specs.declared.code.Place.{Place}
use Rattle.cj_rows.specs.Edges.{led_place}
use Rattle.cj_rows.specs.Tables.{given}
use Rattle.cj_rows.proofs.Reversing.{popped}
use Rattle.cj_anchor.proofs.anchors.led_places.Goals as goal

pub loop-place-preserved : goal.loop-place-preserved
loop-place-preserved c =
    let f = led_place (given c.args.table.now) in
    let rest = map f (reverse c.pop.new.self) in
    let made = c.loop-place.made in
    let first = popped c.loop-place.rest c.pop.new.self c.pop.result c.in-Some.place c.pop.ensures.item c.in-Some.is c.pop.ensures.rest in
    ap (λ (xs : List Place). xs ++ rest) (c.in_ok-push.ensures.ok ∙ ap (λ (p : Place). made ++ p ∷ []) c.led_place.ensures)
    ∙ append_assoc made (f c.in-Some.place ∷ []) rest
    ∙ ap (λ (xs : List Place). made ++ map f xs) (sym first)
    ∙ c.loop-place.invariant
