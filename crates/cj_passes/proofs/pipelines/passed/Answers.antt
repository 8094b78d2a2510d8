use Rattle.std.proofs.Common.{refl, ap, sym, ◌∙◌, subst, List, None}
use Rattle.cj_draft.specs.declared.passes.Pass.{Pass}
use Rattle.cj_draft.specs.declared.passes.Pass.TheVariants.{Anchors, Assume, Delay, Const, Inline}
use Rattle.cj_draft.specs.declared.facts.Fact.{Fact}
use Rattle.cj_draft.specs.declared.code.Code.{Code}
use Rattle.cj_const.specs.Folding.{IsFolded}
use Rattle.cj_inline.specs.Inlining as inlining
use Rattle.cj_passes.specs.Pipeline.{listed, reasons, IsPassed}
use Rattle.cj_passes.proofs.pipelines.passed.Goals as goal

pub returns-in_ok-push_all-in-Anchors-clause-made :
    goal.returns-in_ok-push_all-in-Anchors-clause-made
returns-in_ok-push_all-in-Anchors-clause-made c =
    let made = c.in_ok-made-in-Anchors in
    let step : IsPassed c.args.draft.program c.args.draft.code (Anchors c.in-Anchors.places) made.made.code (reasons made.skipped) =
    (made.skipped, made.ensures.code, refl) in (
      reasons made.skipped,
      subst (λ (p : Pass). IsPassed c.args.draft.program c.args.draft.code p made.made.code (reasons made.skipped))
          (sym c.in-Anchors.is) step,
      c.in_ok-push_all-in-Anchors.ensures,
    )

pub returns-in_ok-push_one-in-Assume-clause-made :
    goal.returns-in_ok-push_one-in-Assume-clause-made
returns-in_ok-push_one-in-Assume-clause-made c =
    let made = c.in_ok-made-in-Assume in
    let step : IsPassed c.args.draft.program c.args.draft.code (Assume c.in-Assume.anchor c.in-Assume.guards) made.made.code (listed made.skipped) =
    (made.ensures.code, ap listed made.ensures.skipped) in (
      listed made.skipped,
      subst (λ (p : Pass). IsPassed c.args.draft.program c.args.draft.code p made.made.code (listed made.skipped))
          (sym c.in-Assume.is) step,
      c.in_ok-push_one-in-Assume.ensures,
    )

pub returns-in_ok-push_one-in-Delay-clause-made :
    goal.returns-in_ok-push_one-in-Delay-clause-made
returns-in_ok-push_one-in-Delay-clause-made c =
    let made = c.in_ok-made-in-Delay in
    let step : IsPassed c.args.draft.program c.args.draft.code (Delay c.in-Delay.path c.in-Delay.guards) made.made.code (listed made.skipped) =
    (made.ensures.code, ap listed made.ensures.skipped) in (
      listed made.skipped,
      subst (λ (p : Pass). IsPassed c.args.draft.program c.args.draft.code p made.made.code (listed made.skipped))
          (sym c.in-Delay.is) step,
      c.in_ok-push_one-in-Delay.ensures,
    )

pub returns-in_ok-push_one-in-Const-clause-made :
    goal.returns-in_ok-push_one-in-Const-clause-made
unfolding listed
returns-in_ok-push_one-in-Const-clause-made c =
    let made = c.in_ok-made-in-Const in
    let folded = subst (λ (context : List Fact). IsFolded context c.args.draft.code made.made.code) c.requires.context made.ensures.code in
    let step : IsPassed c.args.draft.program c.args.draft.code Const made.made.code (listed None) = (folded, refl) in (
      listed None,
      subst (λ (p : Pass). IsPassed c.args.draft.program c.args.draft.code p made.made.code (listed None))
          (sym c.in-Const.is) step,
      c.in_ok-push_one-in-Const.ensures,
    )

pub returns-in_ok-push_one-in-Inline-clause-made :
    goal.returns-in_ok-push_one-in-Inline-clause-made
returns-in_ok-push_one-in-Inline-clause-made c =
    let made = c.in_ok-made-in-Inline in
    let draft = c.args.draft in
    let callee = c.in_ok-callee-in-Inline.ensures in
    let after = subst (λ (k : Code). inlining.IsAfter draft.program draft.code c.in-Inline.call k made.made.code) callee.code made.ensures.code in
    let skipped = made.ensures.skipped ∙ ap (inlining.inline_offence draft.code c.in-Inline.call) callee.code in
    let step : IsPassed draft.program draft.code (Inline c.in-Inline.call) made.made.code (listed made.skipped) = (after, ap listed skipped) in (
      listed made.skipped,
      subst (λ (p : Pass). IsPassed draft.program draft.code p made.made.code (listed made.skipped))
          (sym c.in-Inline.is) step,
      c.in_ok-push_one-in-Inline.ensures,
    )
