use Rattle.std.proofs.Common.{◌≡◌, ◌<◌, [], ◌∷◌, ◌++◌, length, Some, sym, ap, ◌∙◌, subst, arith}
use Rattle.std.specs.Prelude.{List, slice_get}
use Rattle.std.proofs.lemmas.Option.{slice_get_within, slice_get_read}
use Rattle.cj_ir.specs.declared.language.FunId.{FunId}
use Rattle.cj_ir.specs.Program.{reg_count}
use Rattle.cj_draft.specs.declared.facts.Fact.{Fact}
use Rattle.cj_draft.specs.declared.code.Place.{Place}
use Rattle.cj_draft.specs.declared.code.Code.{Code}
use Rattle.cj_draft.specs.BaseBody.{base_code}
use Rattle.cj_draft.specs.Bodies.{Body}
use Rattle.cj_draft.specs.WellNamed.{IsContextOf}
use Rattle.cj_test_passes.proofs.ByHandSound.{first_fits}
use Rattle.cj_test_passes.proofs.DeadSound.{regs_of_base}
use Rattle.cj_test_passes.specs.Behind.{are_ended}
use Rattle.cj_test_passes.proofs.BehindSound.{behind_sound}
use Rattle.cj_test_passes.proofs.sparse.behind.draft.Goals as goal

pub adopt_in-requires-clause-context : goal.adopt_in-requires-clause-context
adopt_in-requires-clause-context c c' =
    let P = c'.args.checked.now in
    let x : Fact = c'.fact.result in
    let context : c'.push.new.self ≡ x ∷ [] = c'.in_ok-push.ensures.ok ∙ ap (λ (xs : List Fact). xs ++ x ∷ []) c'.new-context.ensures in
    subst (λ (xs : List Fact). IsContextOf P (record { 0 = 0 }) xs) (sym context)
    (first_fits (slice_get P.functions 0) c'.function-main.result.now x c'.function-main.ensures.found
    (c'.is_store.ensures.params c'.if-not-is_store.false) (ap (λ (y : Fact). y.reg.0) c'.fact.ensures))

pub adopt_in-requires-clause-sound : goal.adopt_in-requires-clause-sound
adopt_in-requires-clause-sound c c' =
    let P = c'.args.checked.now in
    let f : FunId = record { 0 = 0 } in
    let first : Place = c'.in-Some.first.now in
    let draft : Body = c'.in_ok-of_base.field-0 in
    let code : Code = c'.into_parts-base.result.2 in
    let is : code ≡ base_code P f = c'.into_parts-base.ensures.code ∙ ap (λ (b : Body). b.code) c'.in_ok-of_base.ensures in
    let looked = c'.in-Some.ensures.lookup in
    let read : c'.items-2.result.now ≡ code.places = c'.items-2.ensures in
    let within : 0 < length code.places = omega (arith, looked.3.0, ap (λ (ps : List Place). length ps) read) in
    let at : slice_get (base_code P f).places 0 ≡ Some first =
    ap (λ (k : Code). slice_get k.places 0) (sym is)
    ∙ ap (λ (ps : List Place). slice_get ps 0) (sym read)
    ∙ slice_get_read c'.items-2.result.now (length code.places) 0 first (ap (λ (ps : List Place). length ps) (sym read)) within looked.1 in
    let four : reg_count P f ≡ 4 = regs_of_base P f ∙ sym (ap (λ (k : Code). k.regs) is) ∙ c'.is_store.ensures.registers c'.if-not-is_store.false in
    let inside = slice_get_within P.functions 0 c'.function-main.result.now c'.function-main.ensures.found in
    let sound = c'.base_body_is_sound.ensures P c'.push.new.self f c'.program.ensures.well_formed inside in
    let ended = ap are_ended (sym c'.items-3.ensures) ∙ sym c'.are_ended.ensures ∙ c'.if-not-are_ended.false in
    behind_sound P f c'.push.new.self first sound at four (c'.is_store.ensures.fails c'.if-not-is_store.false)
    c'.in_ok-places.places c'.in_ok-places.ensures ended
