use Rattle.std.proofs.Common.{◌∙◌, List, length, map, ap, ap₂}
use Rattle.cj_ir.specs.declared.language.Label.{Label}
use Rattle.cj_draft.specs.declared.code.Place.{Place}
use Rattle.cj_draft.specs.declared.code.Code.{Code}
use Rattle.cj_rows.specs.Edges.{led_place}
use Rattle.cj_rows.specs.Tables.{given}
use Rattle.cj_passes.specs.Lowering.{led, kept_of, lowered}
use Rattle.cj_rows.proofs.LedAlike.{HasEdgesWithin, led_alike}
use Rattle.cj_passes.proofs.Keeping.{all_kept}
use Rattle.cj_rows.proofs.Tables.{given_in}
use Rattle.cj_passes.proofs.lowering.lowered.Goals as goal

with_places : Code → Label → List Place → Code
with_places code entry places = record { function = code.function; regs = code.regs; entry = entry; places = places }

pub returns : goal.returns
unfolding lowered with_places
returns c =
    let code = c.args.code in
    let kept = c.args.kept.now in
    let n = length code.places in
    let table = c.in_ok-table.table in
    let entry = c.given-entry.ensures ∙ ap (λ (t : List Label). given t code.entry) c.items.ensures
    ∙ given_in (led code kept) n table code.entry c.in_ok-table.ensures c.requires.closed.entry in
    let places = c.in_ok-places.ensures ∙ ap (λ (t : List Label). map (led_place (given t)) (kept_of kept code.places)) c.items-2.ensures
    ∙ led_alike (given table) (led code kept) n (λ x h. given_in (led code kept) n table x c.in_ok-table.ensures h) (kept_of kept code.places)
    (all_kept (HasEdgesWithin n) kept code.places c.requires.closed.edges) in
    ap₂ (with_places code) entry places
