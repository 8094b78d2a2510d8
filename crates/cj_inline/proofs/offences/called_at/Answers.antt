use Rattle.std.proofs.Common.{◌≡◌, ◌<◌, ◌∙◌, List, length, Some, None, sym, ap, arith}
use Rattle.cj_draft.specs.declared.code.Place.{Place}
use Rattle.cj_draft.specs.declared.code.Code.{Code}
use Rattle.cj_draft.specs.WellNamed.{IsPlaceFine}
use Rattle.cj_draft.specs.Arrives.{place_at}
use Rattle.cj_ir.proofs.ListReads.{all_at}
use Rattle.cj_rows.proofs.ListReads.{get-read}
use Rattle.cj_inline.specs.Inlining.{called, called_in, called_at, offence_by, offence_at, inline_offence}
use Rattle.cj_inline.proofs.Conditions.{called_exists}
use Rattle.cj_inline.proofs.offences.called_at.Goals as goal

pub returns-in-Some-called-clause-exists : goal.returns-in-Some-called-clause-exists
returns-in-Some-called-clause-exists c =
    let draft = c.args.draft.now in
    let code = draft.code in
    let place = c.in-Some.place.now in
    let looked = c.in-Some.ensures.lookup in
    let read = c.items.ensures ∙ ap (λ (k : Code). k.places) c.code.ensures.same in
    let within : c.args.call.0 < length code.places = omega (arith, looked.3.0, ap (λ (ps : List Place). length ps) read) in
    let at : place_at code c.args.call ≡ Some place = get-read code.places c.items.result.now c.args.call.0 place read within looked.1 in
    called_exists draft.program code.regs (length code.places) place c.in-Some-called.function
    (all_at (IsPlaceFine draft.program code.regs (length code.places)) code.places c.args.call.0 place c.code.ensures.sound.named.places at)
    (sym c.called.ensures ∙ c.in-Some-called.is)

pub returns-in-None-clause-skipped : goal.returns-in-None-clause-skipped
unfolding inline_offence offence_at offence_by
returns-in-None-clause-skipped c =
    let code = c.args.draft.now.code in
    let call = c.args.call in
    let place = c.in-Some.place.now in
    let looked = c.in-Some.ensures.lookup in
    let read = c.items.ensures ∙ ap (λ (k : Code). k.places) c.code.ensures.same in
    let within : call.0 < length code.places = omega (arith, looked.3.0, ap (λ (ps : List Place). length ps) read) in
    let at : place_at code call ≡ Some place = get-read code.places c.items.result.now call.0 place read within looked.1 in
    let none : called place ≡ None = sym c.called.ensures ∙ c.in-None.is in
    λ callee. ap (offence_at code call callee) at ∙ ap (offence_by code call callee place) none

pub returns-in-None-clause-none : goal.returns-in-None-clause-none
unfolding called_at called_in called
returns-in-None-clause-none c =
    let code = c.args.draft.now.code in
    let call = c.args.call in
    let place = c.in-Some.place.now in
    let looked = c.in-Some.ensures.lookup in
    let read = c.items.ensures ∙ ap (λ (k : Code). k.places) c.code.ensures.same in
    let within : call.0 < length code.places = omega (arith, looked.3.0, ap (λ (ps : List Place). length ps) read) in
    let at : place_at code call ≡ Some place = get-read code.places c.items.result.now call.0 place read within looked.1 in
    ap called_in at ∙ sym c.called.ensures ∙ c.in-None.is
