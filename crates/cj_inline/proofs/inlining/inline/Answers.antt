use Rattle.std.proofs.Common.{◌∙◌, [], sym, ap, ap₂, subst}
use Rattle.cj_ir.specs.declared.language.FunId.{FunId}
use Rattle.cj_draft.specs.declared.code.Code.{Code}
use Rattle.cj_draft.specs.Bodies.{Body}
use Rattle.cj_draft.specs.WellNamed.{IsContextOf}
use Rattle.cj_draft.specs.Sound.{Sound}
use Rattle.cj_inline.specs.Inlining.{inline_offence, inlined}
use Rattle.cj_inline.proofs.InlineSound.{inlined_sound, inlined_function, left_alone, not_left}
use Rattle.cj_inline.proofs.Conditions.{can_inline}
use Rattle.cj_inline.proofs.inlining.inline.Goals as goal

pub inlined-requires-clause-room : goal.inlined-requires-clause-room
inlined-requires-clause-room c =
    (can_inline c.into_parts-context.result.2 c.args.call c.code-callee.result.now (sym c.inline_offence.ensures ∙ c.in_default.is)).regs

pub returns-in-Some-clause-code : goal.returns-in-Some-clause-code
returns-in-Some-clause-code c =
    let draft = c.args.draft in
    let parts = c.into_parts-context.ensures in
    let same = ap₂ (λ (k d : Code). inline_offence k c.args.call d) parts.code c.code-callee.ensures.same in
    ap (λ (b : Body). b.code) c.adopt_in.ensures ∙ parts.code
    ∙ left_alone draft.program draft.code c.args.call c.args.callee.now.code c.in-Some.skipped (sym same ∙ sym c.inline_offence.ensures ∙ c.in-Some.is)

pub adopt_in-requires-2-clause-context : goal.adopt_in-requires-2-clause-context
adopt_in-requires-2-clause-context c =
    let draft = c.args.draft in
    let parts = c.into_parts-context.ensures in
    let function = ap (λ (k : Code). k.function) c.in_ok-code.ensures
    ∙ inlined_function c.program.result.now c.into_parts-context.result.2 c.args.call c.code-callee.result.now
    ∙ ap (λ (k : Code). k.function) parts.code in
    subst (λ (f : FunId). IsContextOf c.into_parts-context.result.0.now f c.into_parts-context.result.1) (sym function)
    (subst (λ p. IsContextOf p draft.code.function c.into_parts-context.result.1) (sym parts.program)
    (subst (IsContextOf draft.program draft.code.function) (sym parts.context) parts.fits))

pub adopt_in-requires-2-clause-sound : goal.adopt_in-requires-2-clause-sound
adopt_in-requires-2-clause-sound c =
    let draft = c.args.draft in
    let parts = c.into_parts-context.ensures in
    let P = c.into_parts-context.result.0.now in
    let context = c.into_parts-context.result.1 in
    let code = c.into_parts-context.result.2 in
    let callee = c.code-callee.result.now in
    let call = c.args.call in
    let none = sym c.inline_offence.ensures ∙ c.in_default.is in
    let function = ap (λ (k : Code). k.function) c.in_ok-code.ensures
    ∙ inlined_function c.program.result.now code call callee
    ∙ ap (λ (k : Code). k.function) parts.code in
    let sound = subst (λ p. Sound p context draft.code.function code) (sym parts.program)
    (subst (λ x. Sound draft.program x draft.code.function code) (sym parts.context)
    (subst (Sound draft.program draft.context draft.code.function) (sym parts.code) parts.sound)) in
    let theirs = c.code-callee.ensures in
    let sound_callee = subst (λ (k : Code). Sound P [] k.function k) (sym theirs.same)
    (subst (λ p. Sound p [] c.args.callee.now.code.function c.args.callee.now.code) (c.requires.program ∙ sym parts.program)
    (subst (λ x. Sound c.args.callee.now.program x c.args.callee.now.code.function c.args.callee.now.code) c.requires.context theirs.sound)) in
    let made = inlined_sound P c.program.ensures.well_formed context draft.code.function code callee call (can_inline code call callee none) sound sound_callee
    in
    let is = c.in_ok-code.ensures ∙ ap (λ p. inlined p code call callee) c.program.ensures.same in
    subst (λ (f : FunId). Sound P context f c.in_ok-code.code) (sym function)
    (subst (Sound P context draft.code.function) (sym is) made)

pub returns-clause-code : goal.returns-clause-code
returns-clause-code c =
    let draft = c.args.draft in
    let parts = c.into_parts-context.ensures in
    let call = c.args.call in
    let same = ap₂ (λ (k d : Code). inline_offence k call d) parts.code c.code-callee.ensures.same in
    ap (λ (b : Body). b.code) c.adopt_in-2.ensures ∙ c.in_ok-code.ensures
    ∙ ap (λ p. inlined p c.into_parts-context.result.2 call c.code-callee.result.now) (c.program.ensures.same ∙ parts.program)
    ∙ ap₂ (λ (k d : Code). inlined draft.program k call d) parts.code c.code-callee.ensures.same
    ∙ not_left draft.program draft.code call c.args.callee.now.code (sym same ∙ sym c.inline_offence.ensures ∙ c.in_default.is)
