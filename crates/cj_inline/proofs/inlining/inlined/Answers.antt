use Rattle.std.proofs.Common.{◌≡◌, ◌<◌, List, refl, sym, ap, ap₂, ◌∙◌, length, arith}
use Rattle.std.specs.Prelude.{slice_set}
use Rattle.std.proofs.lemmas.Option.{same_Some}
use Rattle.std.proofs.lemmas.List.Elements.{All-weaker}
use Rattle.cj_draft.specs.declared.code.Place.{Place}
use Rattle.cj_draft.specs.declared.instructions.VInstr.{VInstr}
use Rattle.cj_draft.specs.Inlining.{call_place}
use Rattle.cj_draft.specs.WellNamed.{IsPlaceFine}
use Rattle.cj_rows.proofs.ListReads.{get-read}
use Rattle.cj_inline.specs.Inlining.{seam_at}
use Rattle.cj_inline.specs.declared.seams.Seam.{Seam}
use Rattle.cj_inline.proofs.InlineSound.{inlined_is}
use Rattle.cj_draft.proofs.Wider.{place_wider}
use Rattle.cj_inline.proofs.inlining.inlined.Goals as goal

pub shifted_label-entry-requires-clause-few : goal.shifted_label-entry-requires-clause-few
unfolding seam_at
shifted_label-entry-requires-clause-few c =
    omega (arith, ap (λ (s : Seam). s.labels) c.in_ok-seam.ensures, c.requires.code.few_places)

pub with_callee-requires-clause-few_regs : goal.with_callee-requires-clause-few_regs
unfolding seam_at
with_callee-requires-clause-few_regs c =
    omega (arith, ap (λ (s : Seam). s.regs) c.in_ok-seam.ensures, c.requires.code.few_regs)

pub with_callee-requires-clause-few_labels : goal.with_callee-requires-clause-few_labels
unfolding seam_at
with_callee-requires-clause-few_labels c =
    omega (arith, ap (λ (s : Seam). s.labels) c.in_ok-seam.ensures, c.requires.code.few_places)

pub with_callee-requires-clause-fine : goal.with_callee-requires-clause-fine
with_callee-requires-clause-fine c =
    let P = c.args.program.now in
    let callee = c.args.callee.now in
    let named = c.requires.callee in (
      P,
      All-weaker (IsPlaceFine P callee.regs (length callee.places)) (IsPlaceFine P 128 512)
          (place_wider P callee.regs 128 (length callee.places) 512 named.few_regs named.few_places) callee.places named.places,
    )

pub returns : goal.returns
unfolding call_place
returns c =
    let P = c.args.program.now in
    let code = c.args.code in
    let callee = c.args.callee.now in
    let call = c.args.call in
    let place = c.in-Some.place.now in
    let looked = c.in-Some.ensures.lookup in
    let within : call.0 < length code.places = omega (arith, looked.3.0, ap (λ (ps : List Place). length ps) c.items.ensures) in
    let at = get-read code.places c.items.result.now call.0 place c.items.ensures within looked.1 in
    let same : c.item_mut.result.now ≡ place = same_Some c.item_mut.result.now place (sym c.item_mut.ensures.value ∙ at) in
    let args = c.items-2.result.now in
    let to = c.shifted_label-entry.result in
    let with : VInstr → Place → Place = λ i p. record { instr = i; point = p.point; facts = p.facts; backs = p.backs } in
    let enters = ap₂ with c.in_ok-enter.ensures same in
    inlined_is P code callee call place c.in-Call.dest c.in-Call.function c.in-Call.args args c.in-Call.next
    to c.in_ok-seam.seam (call_place code.regs callee.regs to args place)
    (slice_set code.places call.0 (with c.in_ok-enter.enter c.item_mut.result.now)) c.in_ok-places.places
    at c.in-Call.is c.in_ok-seam.ensures c.shifted_label-entry.ensures c.items-2.ensures
    refl (ap (slice_set code.places call.0) enters) c.in_ok-places.ensures
