-- The step of one pass of the list.
use Rattle.std.specs.Prelude.{◌≡◌, ℕ, List, ◌++◌}
use Rattle.cj_ir.specs.declared.language.Program.{Program}
use Rattle.cj_draft.specs.declared.code.Code.{Code}
use Rattle.cj_draft.specs.declared.passes.Pass.{Pass}
use Rattle.cj_draft.specs.declared.passes.Skipped.{Skipped}
use Rattle.cj_passes.specs.Pipeline.{IsPassed, numbered}

-- the code that a pass makes, and what is skipped before and after it
abbrev pub IsPassStep : Program → Code → ℕ → Pass → Code → List (ℕ × Skipped) → List (ℕ × Skipped) → Type 0
IsPassStep P code number pass made skips more =
    (skipped : List Skipped) × IsPassed P code pass made skipped × (more ≡ skips ++ numbered number skipped)
