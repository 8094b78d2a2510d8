use Rattle.std.proofs.Common.{◌≡◌, ◌∙◌, List, [], ◌∷◌, ◌++◌, length, map, Some, ap, ap₂, subst}
use Rattle.cj_ir.specs.declared.language.Label.{Label}
use Rattle.cj_draft.specs.declared.code.Place.{Place}
use Rattle.cj_draft.specs.declared.code.Code.{Code}
use Rattle.cj_draft.specs.Arrives.{place_at}
use Rattle.cj_draft.specs.Edges.{fresh_label, led_to}
use Rattle.cj_rows.specs.Edges.{led_place}
use Rattle.cj_rows.specs.Tables.{IsTable, given}
use Rattle.cj_anchor.specs.AnchorInsertion.{anchored}
use Rattle.cj_rows.proofs.ListReads.{get-read}
use Rattle.cj_rows.proofs.LedAlike.{led_alike}
use Rattle.cj_rows.proofs.Tables.{numbered, given_in}
use Rattle.cj_anchor.proofs.anchors.anchored.Goals as goal

with_places : Code → Label → List Place → Code
with_places code entry places = record { function = code.function; regs = code.regs; entry = entry; places = places }

pub returns : goal.returns
unfolding anchored with_places numbered fresh_label
returns c =
    let code = c.args.code in
    let label = c.args.label in
    let n = length code.places in
    let table = c.in_ok-table.table in
    let r = led_to label (fresh_label code) in
    let place = c.index-items-label.result in
    let fresh = c.in_ok-place.place in
    let at : place_at code label
    ≡ Some place = get-read code.places c.items.result.now label.0 place c.items.ensures c.requires.within c.index-items-label.is in
    let is_table : IsTable r n table = subst (λ (ps : List Place). IsTable (led_to label (numbered (length ps))) (length ps) table) c.items-labels.ensures
    c.in_ok-table.ensures in
    let entry = c.given-entry.ensures ∙ ap (λ (t : List Label). given t code.entry) c.items-2.ensures
    ∙ given_in r n table code.entry is_table c.requires.closed.entry in
    let old = c.in_ok-places.ensures ∙ ap (λ (t : List Label). map (led_place (given t)) code.places) c.items-3.ensures
    ∙ led_alike (given table) r n (λ x h. given_in r n table x is_table h) code.places c.requires.closed.edges in
    let places = c.in_ok-push.ensures.ok ∙ ap₂ (λ (ps : List Place) (p : Place). ps ++ p ∷ []) old c.in_ok-place.ensures.same in
    record {
      place = place;
      at = at;
      backs = c.in_ok-place.ensures.backs;
      with_own = c.in_ok-place.ensures.with_own;
      same = ap₂ (with_places code) entry places;
    }
