use Rattle.std.proofs.Common.{◌≡◌, ◌<◌, ℕ, ◌+◌, List, [], ◌∷◌, ◌++◌, drop, get_or, length, ap, sym, ◌∙◌, subst, append-nil, arith}
use Rattle.std.proofs.lemmas.List.{drop_more}
use Rattle.std.proofs.Math.ListN.{drop_of_length-le}
use Rattle.cj_ir.specs.declared.language.Program.{Program}
use Rattle.cj_draft.specs.BaseBody.{base_code}
use Rattle.cj_draft.specs.Bodies.{Body}
use Rattle.cj_draft.specs.declared.code.Code.{Code}
use Rattle.cj_draft.specs.declared.passes.Pass.{Pass}
use Rattle.cj_draft.specs.declared.passes.Skipped.{Skipped}
use Rattle.cj_passes.specs.Lowering.{lowered}
use Rattle.cj_passes.specs.Pipeline.{ArePassed, Finished}
use Rattle.cj_passes.specs.OnePass.{IsPassStep}
use Rattle.cj_passes.proofs.Functions.{pass_keeps}
use Rattle.cj_passes.proofs.Steps.{one_pass_more}
use Rattle.cj_passes.proofs.pipelines.pipeline.Goals as goal

pub loop-number-init : goal.loop-number-init
unfolding base_code
loop-number-init c =
    let is = c.in_ok-draft.ensures in
    let P = c.args.checked.now in
    record {
      program = ap (λ (b : Body). b.program) is;
      context = ap (λ (b : Body). b.context) is;
      function = ap (λ (b : Body). b.code.function) is;
      rest = λ made later are.
          let all = subst (λ (k : Code). ArePassed P 0 k c.args.passes.now made later) (ap (λ (b : Body). b.code) is) are in
          subst (λ (ss : List (ℕ × Skipped)). ArePassed P 0 (base_code P c.args.f) c.args.passes.now made (ss ++ later)) (sym c.new-skips.ensures) all;
    }

pub loop-number-preserved : goal.loop-number-preserved
loop-number-preserved c =
    let i = c.loop-number.invariant in
    let P = c.args.checked.now in
    let passes = c.args.passes.now in
    let n = c.loop-number.number in
    let draft = c.loop-number.draft in
    let next = c.in_ok-draft-2.draft in
    let e = c.in_ok-draft-2.ensures in
    let inside : n < length passes = omega (arith, ap length c.items-pass-items.ensures) in
    let x = c.pass-item.result in
    let more : drop n passes ≡ x ∷ drop (n + 1) passes = drop_more passes n x inside
    ∙ ap (λ (ps : List Pass). get_or ps n x ∷ drop (n + 1) passes) (sym c.items-pass-items.ensures)
    ∙ ap (λ (p : Pass). p ∷ drop (n + 1) passes) (sym c.pass-item.is) in
    let step = subst (λ (Q : Program). IsPassStep Q draft.code n x next.code c.loop-number.skips c.passed.new.skips) i.program e.made in
    record {
      program = e.program ∙ i.program;
      context = e.context ∙ i.context;
      function = pass_keeps P draft.code next.code x step.0 step.1 ∙ i.function;
      rest = one_pass_more P (base_code P c.args.f) passes draft.code next.code n x (drop (n + 1) passes) c.loop-number.skips c.passed.new.skips step
          (λ made later are. i.rest made later (subst (λ (ps : List Pass). ArePassed P n draft.code ps made later)
          (sym more) are));
    }

pub returns-clause-function : goal.returns-clause-function
unfolding lowered
returns-clause-function c =
    ap (λ (k : Code). k.function) c.in_ok-version.ensures.code.same ∙ c.loop-number.invariant.function

pub returns-clause-made : goal.returns-clause-made
returns-clause-made c =
    let P = c.args.checked.now in
    let passes = c.args.passes.now in
    let n = c.loop-number.number in
    let draft = c.loop-number.draft in
    let none_left : drop n passes ≡ [] = drop_of_length-le passes (omega (arith, ap length c.items-pass-items.ensures)) in
    let all = c.loop-number.invariant.rest draft.code []
    (subst (λ (ps : List Pass). ArePassed P n draft.code ps draft.code []) (sym none_left) (Finished n draft.code)) in
    record {
      draft = draft.code;
      passed = subst (ArePassed P 0 (base_code P c.args.f) passes draft.code) (append-nil c.loop-number.skips) all;
      lowered = c.in_ok-version.ensures.code;
    }
