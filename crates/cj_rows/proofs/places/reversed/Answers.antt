use Rattle.std.proofs.Common.{◌∙◌, List, [], ◌∷◌, ◌++◌, reverse, sym, ap, append_assoc}
use Rattle.cj_draft.specs.declared.code.Place.{Place}
use Rattle.cj_rows.proofs.Reversing.{popped}
use Rattle.cj_rows.proofs.places.reversed.Goals as goal

pub loop-place-preserved : goal.loop-place-preserved
loop-place-preserved c =
    let rest = reverse c.pop.new.self in
    let first = popped c.loop-place.places c.pop.new.self c.pop.result c.in-Some.place c.pop.ensures.item c.in-Some.is c.pop.ensures.rest in
    ap (λ (xs : List Place). xs ++ rest) c.in_ok-push.ensures.ok
    ∙ append_assoc c.loop-place.turned (c.in-Some.place ∷ []) rest
    ∙ ap (λ (xs : List Place). c.loop-place.turned ++ xs) (sym first)
    ∙ c.loop-place.invariant
