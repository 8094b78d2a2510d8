use Rattle.std.proofs.Common.{◌∙◌, List, sym, ap, ap₂, subst}
use Rattle.cj_ir.specs.declared.language.Program.{Program}
use Rattle.cj_ir.specs.declared.language.FunId.{FunId}
use Rattle.cj_draft.specs.declared.facts.Fact.{Fact}
use Rattle.cj_draft.specs.declared.code.Code.{Code}
use Rattle.cj_draft.specs.WellNamed.{IsContextOf}
use Rattle.cj_draft.specs.Sound.{Sound}
use Rattle.cj_draft.specs.Bodies.{HasNoAnchors}
use Rattle.cj_passes.specs.Lowering.{AreKept, lowered}
use Rattle.cj_rows.specs.Edges.{IsClosed}
use Rattle.cj_rows.proofs.Closed.{named_closed}
use Rattle.cj_passes.proofs.LoweringSound.{lowering_sound, lowering_has_no_anchors}
use Rattle.cj_passes.proofs.lowering.lower.Goals as goal

pub reached-requires : goal.reached-requires
reached-requires c =
    subst IsClosed (sym c.into_parts-context.ensures.code) (named_closed c.args.draft.program c.args.draft.code c.into_parts-context.ensures.sound.named)

pub lowered-requires-clause-closed : goal.lowered-requires-clause-closed
lowered-requires-clause-closed c =
    subst IsClosed (sym c.into_parts-context.ensures.code) (named_closed c.args.draft.program c.args.draft.code c.into_parts-context.ensures.sound.named)

pub adopt_in-requires-clause-context : goal.adopt_in-requires-clause-context
unfolding lowered
adopt_in-requires-clause-context c =
    let parts = c.into_parts-context.ensures in
    let draft = c.args.draft in
    let f = ap (λ (m : Code). m.function) (c.in_ok-code.ensures ∙ ap (λ (k : Code). lowered k c.items.result.now) parts.code) in
    subst (λ (P : Program). IsContextOf P c.in_ok-code.code.function c.into_parts-context.result.1) (sym parts.program)
    (subst (λ (g : FunId). IsContextOf draft.program g c.into_parts-context.result.1) (sym f)
    (subst (λ (context : List Fact). IsContextOf draft.program draft.code.function context) (sym parts.context) parts.fits))

pub adopt_in-requires-clause-sound : goal.adopt_in-requires-clause-sound
unfolding lowered
adopt_in-requires-clause-sound c =
    let parts = c.into_parts-context.ensures in
    let draft = c.args.draft in
    let kept = c.in_ok-kept.kept in
    let made = c.in_ok-code.code in
    let e = c.in_ok-code.ensures ∙ ap₂ lowered parts.code c.items.ensures in
    let are = subst (λ (k : Code). AreKept k kept) parts.code c.in_ok-kept.ensures in
    let sound = lowering_sound draft.program draft.context draft.code.function draft.code kept parts.sound are in
    subst (λ (P : Program). Sound P c.into_parts-context.result.1 made.function made) (sym parts.program)
    (subst (λ (context : List Fact). Sound draft.program context made.function made) (sym parts.context)
    (subst (λ (m : Code). Sound draft.program draft.context m.function m) (sym e) sound))

pub adopt_in-requires-clause-no_anchors : goal.adopt_in-requires-clause-no_anchors
adopt_in-requires-clause-no_anchors c =
    let parts = c.into_parts-context.ensures in
    let draft = c.args.draft in
    let kept = c.in_ok-kept.kept in
    let e = c.in_ok-code.ensures ∙ ap₂ lowered parts.code c.items.ensures in
    let are = subst (λ (k : Code). AreKept k kept) parts.code c.in_ok-kept.ensures in
    subst HasNoAnchors (sym e) (lowering_has_no_anchors draft.program draft.context draft.code.function draft.code kept parts.sound are)
