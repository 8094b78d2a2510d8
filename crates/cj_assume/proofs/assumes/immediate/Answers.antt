use Rattle.std.proofs.Common.{◌∙◌, List, sym, ap, ap₂, subst}
use Rattle.cj_ir.specs.declared.language.FunId.{FunId}
use Rattle.cj_ir.specs.declared.language.Guard.{Guard}
use Rattle.cj_draft.specs.declared.code.Code.{Code}
use Rattle.cj_draft.specs.Bodies.{Body}
use Rattle.cj_draft.specs.WellNamed.{IsContextOf}
use Rattle.cj_draft.specs.Sound.{Sound}
use Rattle.cj_assume.specs.ImmediateAssume.{assume_offence, assumed}
use Rattle.cj_assume.proofs.AssumeSound.{assumed_sound, assumed_function, left_alone, not_left}
use Rattle.cj_assume.proofs.assumes.immediate.Goals as goal

pub returns-in-Some-clause-code : goal.returns-in-Some-clause-code
returns-in-Some-clause-code c =
    let draft = c.args.draft in
    let parts = c.into_parts-context.ensures in
    let same = ap₂ (λ (k : Code) (gs : List Guard). assume_offence k c.args.anchor gs) parts.code c.items.ensures in
    ap (λ (b : Body). b.code) c.adopt_in.ensures ∙ parts.code
    ∙ left_alone draft.code c.args.anchor c.args.guards.now c.in-Some.skipped (sym same ∙ sym c.assume_offence.ensures ∙ c.in-Some.is)

pub adopt_in-requires-2-clause-context : goal.adopt_in-requires-2-clause-context
adopt_in-requires-2-clause-context c =
    let draft = c.args.draft in
    let parts = c.into_parts-context.ensures in
    let function = ap (λ (k : Code). k.function) c.in_ok-code.ensures
    ∙ assumed_function c.into_parts-context.result.2 c.args.anchor c.args.guards.now
    ∙ ap (λ (k : Code). k.function) parts.code in
    subst (λ (f : FunId). IsContextOf c.into_parts-context.result.0.now f c.into_parts-context.result.1) (sym function)
    (subst (λ p. IsContextOf p draft.code.function c.into_parts-context.result.1) (sym parts.program)
    (subst (IsContextOf draft.program draft.code.function) (sym parts.context) parts.fits))

pub adopt_in-requires-2-clause-sound : goal.adopt_in-requires-2-clause-sound
adopt_in-requires-2-clause-sound c =
    let draft = c.args.draft in
    let parts = c.into_parts-context.ensures in
    let code = c.into_parts-context.result.2 in
    let gs = c.args.guards.now in
    let none = ap (λ (g : List Guard). assume_offence code c.args.anchor g) (sym c.items.ensures) ∙ sym c.assume_offence.ensures ∙ c.in_default.is in
    let function = ap (λ (k : Code). k.function) c.in_ok-code.ensures
    ∙ assumed_function code c.args.anchor gs
    ∙ ap (λ (k : Code). k.function) parts.code in
    let sound = subst (λ p. Sound p c.into_parts-context.result.1 draft.code.function code) (sym parts.program)
    (subst (λ x. Sound draft.program x draft.code.function code) (sym parts.context)
    (subst (Sound draft.program draft.context draft.code.function) (sym parts.code) parts.sound)) in
    let made = assumed_sound c.into_parts-context.result.0.now c.into_parts-context.result.1 draft.code.function code c.args.anchor gs none sound in
    subst (λ (f : FunId). Sound c.into_parts-context.result.0.now c.into_parts-context.result.1 f c.in_ok-code.code) (sym function)
    (subst (Sound c.into_parts-context.result.0.now c.into_parts-context.result.1 draft.code.function) (sym c.in_ok-code.ensures) made)

pub returns-clause-code : goal.returns-clause-code
returns-clause-code c =
    let draft = c.args.draft in
    let parts = c.into_parts-context.ensures in
    let gs = c.args.guards.now in
    let same = ap₂ (λ (k : Code) (g : List Guard). assume_offence k c.args.anchor g) parts.code c.items.ensures in
    ap (λ (b : Body). b.code) c.adopt_in-2.ensures ∙ c.in_ok-code.ensures
    ∙ ap (λ (k : Code). assumed k c.args.anchor gs) parts.code
    ∙ not_left draft.code c.args.anchor gs (sym same ∙ sym c.assume_offence.ensures ∙ c.in_default.is)
