-- A pipeline makes one version.
use Rattle.std.proofs.Common.{◌≡◌, ℕ, ◌+◌, List, [], ◌++◌, refl, sym, ap, ap₂, ◌∙◌, subst}
use Rattle.cj_ir.specs.declared.language.FunId.{FunId}
use Rattle.cj_ir.specs.declared.language.Program.{Program}
use Rattle.cj_draft.specs.BaseBody.{base_code}
use Rattle.cj_draft.specs.declared.code.Code.{Code}
use Rattle.cj_draft.specs.declared.passes.Pass.{Pass}
use Rattle.cj_draft.specs.declared.passes.Pass.TheVariants.{Anchors, Assume, Delay, Const, Inline}
use Rattle.cj_draft.specs.declared.passes.Skipped.{Skipped}
use Rattle.cj_ir.specs.declared.language.Label.{Label}
use Rattle.cj_anchor.specs.AnchorInsertion.{AreAnchored}
use Rattle.cj_passes.specs.Lowering.{IsLowered}
use Rattle.cj_ir.specs.declared.language.Guard.{Guard}
use Rattle.cj_draft.specs.declared.facts.Fact.{Fact}
use Rattle.cj_delay.specs.DelayedAssume.{IsAfterDelay}
use Rattle.cj_const.specs.Folding.{IsFolded}
use Rattle.cj_passes.specs.Pipeline.{reasons, IsPassed, numbered, ArePassed, Finished, Passed, IsPipeline}

-- the same code, with the same list
abbrev Alike : {X : Type 0} → Code → Code → List X → List X → Type 0
Alike one other xs ys = (one ≡ other) × (xs ≡ ys)

module _
    (anchors_unique : (index : ℕ) (code : Code) (places : List Label) (one other : Code) (skips skips' : List (ℕ × Skipped)) →
    AreAnchored index code places one skips → AreAnchored index code places other skips' → (one ≡ other) × (skips ≡ skips'))
    (lowering_unique : (code one other : Code) → IsLowered code one → IsLowered code other → one ≡ other)
    (delay_unique : (P : Program) (code : Code) (path : List Label) (guards : List Guard) (one other : Code) → IsAfterDelay P code path guards one →
    IsAfterDelay P code path guards other → one ≡ other)
    (folding_unique : (context : List Fact) (code one other : Code) → IsFolded context code one → IsFolded context code other → one ≡ other)
  where
    pass_unique : (P : Program) (code : Code) (pass : Pass) (one other : Code) (s s' : List Skipped) → IsPassed P code pass one s →
        IsPassed P code pass other s' → Alike one other s s'
    pass_unique P code (Anchors places) one other s s' a b =
        let same = anchors_unique 0 code places one other a.0 b.0 a.1 b.1 in
        (same.0, a.2 ∙ ap reasons same.1 ∙ sym b.2)
    pass_unique P code (Assume anchor guards) one other s s' a b = (a.0 ∙ sym b.0, a.1 ∙ sym b.1)
    pass_unique P code (Delay path guards) one other s s' a b = (delay_unique P code path guards one other a.0 b.0, a.1 ∙ sym b.1)
    pass_unique P code Const one other s s' a b = (folding_unique [] code one other a.0 b.0, a.1 ∙ sym b.1)
    pass_unique P code (Inline call) one other s s' a b = (a.0 ∙ sym b.0, a.1 ∙ sym b.1)

    passes_unique : (P : Program) (number : ℕ) (code : Code) (passes : List Pass) (one other : Code) (skips skips' : List (ℕ × Skipped)) →
        ArePassed P number code passes one skips → ArePassed P number code passes other skips' → Alike one other skips skips'
    passes_unique P number code passes one other skips skips' (Finished n k) (Finished n' k') = (refl, refl)
    passes_unique P number code passes one other skips skips' (Passed n k next made p ps s ss is rest) (Passed n' k' next' made' p' ps' s' ss' is' rest') =
        let now = pass_unique P k p next next' s s' is is' in
        let later = passes_unique P (n + 1) next ps made made' ss ss' rest (subst (λ (c : Code). ArePassed P (n + 1) c ps made' ss') (sym now.0) rest') in
        (later.0, ap₂ (λ (x : List Skipped) (xs : List (ℕ × Skipped)). numbered n x ++ xs) now.1 later.1)

    pub pipeline_unique : (P : Program) (f : FunId) (passes : List Pass) (one other : Code) (skips skips' : List (ℕ × Skipped)) →
        IsPipeline P f passes one skips → IsPipeline P f passes other skips' → Alike one other skips skips'
    pipeline_unique P f passes one other skips skips' a b =
        let same = passes_unique P 0 (base_code P f) passes a.draft b.draft skips skips' a.passed b.passed in
        (lowering_unique b.draft one other (subst (λ (c : Code). IsLowered c one) same.0 a.lowered) b.lowered, same.1)
