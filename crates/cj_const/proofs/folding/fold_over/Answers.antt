use Rattle.std.proofs.Common.{◌≡◌, ◌∙◌, sym, ap, subst}
use Rattle.cj_ir.specs.declared.language.FunId.{FunId}
use Rattle.cj_draft.specs.declared.code.Code.{Code}
use Rattle.cj_draft.specs.WellNamed.{IsContextOf}
use Rattle.cj_draft.specs.Sound.{Sound}
use Rattle.cj_const.specs.Folding.{folded}
use Rattle.cj_const.proofs.FoldSound.{folded_sound, folded_function}
use Rattle.cj_const.proofs.folding.fold_over.Goals as goal

pub adopt_in-requires-clause-context : goal.adopt_in-requires-clause-context
adopt_in-requires-clause-context c =
    let draft = c.args.draft in
    let parts = c.into_parts-context.ensures in
    let made : c.in_ok-code.code ≡ folded draft.code c.args.table.now = c.in_ok-code.ensures ∙ ap (λ (k : Code). folded k c.args.table.now) parts.code in
    let function = ap (λ (k : Code). k.function) made ∙ folded_function draft.code c.args.table.now in
    subst (λ (f : FunId). IsContextOf c.into_parts-context.result.0.now f c.into_parts-context.result.1) (sym function)
    (subst (λ p. IsContextOf p draft.code.function c.into_parts-context.result.1) (sym parts.program)
    (subst (IsContextOf draft.program draft.code.function) (sym parts.context) parts.fits))

pub adopt_in-requires-clause-sound : goal.adopt_in-requires-clause-sound
adopt_in-requires-clause-sound c =
    let draft = c.args.draft in
    let parts = c.into_parts-context.ensures in
    let table = c.args.table.now in
    let code = c.in_ok-code.code in
    let made : code ≡ folded draft.code table = c.in_ok-code.ensures ∙ ap (λ (k : Code). folded k c.args.table.now) parts.code in
    let function = ap (λ (k : Code). k.function) made ∙ folded_function draft.code table in
    let sound = folded_sound draft.program draft.context draft.code.function draft.code table parts.sound parts.fits c.requires.consistent in
    subst (λ p. Sound p c.into_parts-context.result.1 code.function code) (sym parts.program)
    (subst (λ x. Sound draft.program x code.function code) (sym parts.context)
    (subst (λ (f : FunId). Sound draft.program draft.context f code) (sym function)
    (subst (Sound draft.program draft.context draft.code.function) (sym made) sound)))
