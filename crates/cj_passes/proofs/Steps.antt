-- The steps of a list of passes, and of a list of what is skipped.
use Rattle.std.proofs.Common.{◌≡◌, ℕ, ◌+◌, List, [], ◌∷◌, ◌++◌, sym, ap, ◌∙◌, subst, append_assoc}
use Rattle.cj_ir.specs.declared.language.Program.{Program}
use Rattle.cj_draft.specs.declared.code.Code.{Code}
use Rattle.cj_draft.specs.declared.passes.Pass.{Pass}
use Rattle.cj_draft.specs.declared.passes.Skipped.{Skipped}
use Rattle.cj_draft.specs.Skips.{told}
use Rattle.cj_passes.specs.Pipeline.{reasons, numbered, ArePassed, Passed}
use Rattle.cj_passes.specs.OnePass.{IsPassStep}

-- what a pass skipped is appended, one after the other
pub one_skip_more : (all skips now rest : List (ℕ × Skipped)) (number : ℕ) (skip : ℕ × Skipped) → now ≡ skips ++ (told number, skip.1) ∷ [] →
    skips ++ numbered number (reasons (skip ∷ rest)) ≡ all → now ++ numbered number (reasons rest) ≡ all
unfolding numbered reasons
one_skip_more all skips now rest number skip pushed so_far =
    let item : ℕ × Skipped = (told number, skip.1) in
    ap (λ (xs : List (ℕ × Skipped)). xs ++ numbered number (reasons rest)) pushed ∙ append_assoc skips (item ∷ []) (numbered number (reasons rest)) ∙ so_far

-- a pass of the list is made
pub one_pass_more : (P : Program) (first : Code) (all : List Pass) (code next : Code) (number : ℕ) (pass : Pass) (passes : List Pass)
    (skips more : List (ℕ × Skipped)) → IsPassStep P code number pass next skips more →
    ((made : Code) (later : List (ℕ × Skipped)) → ArePassed P number code (pass ∷ passes) made later → ArePassed P 0 first all made (skips ++ later)) →
    (made : Code) (later : List (ℕ × Skipped)) → ArePassed P (number + 1) next passes made later → ArePassed P 0 first all made (more ++ later)
one_pass_more P first all code next number pass passes skips more step so_far made later are =
    let new = numbered number step.0 in
    let done = so_far made (new ++ later) (Passed number code next made pass passes step.0 later step.1 are) in
    subst (ArePassed P 0 first all made) (sym (ap (λ (ss : List (ℕ × Skipped)). ss ++ later) step.2 ∙ append_assoc skips new later)) done
