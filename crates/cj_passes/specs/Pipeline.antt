-- The pipeline: a list of passes over the base body of a function, and the lowering of what they make.
use Rattle.std.specs.Prelude.{◌≡◌, ℕ, ◌+◌, List, [], ◌∷◌, ◌++◌, map, Option, Some, None}
use Rattle.cj_ir.specs.declared.language.FunId.{FunId}
use Rattle.cj_ir.specs.declared.language.Label.{Label}
use Rattle.cj_ir.specs.declared.language.Program.{Program}
use Rattle.cj_draft.specs.BaseBody.{base_code}
use Rattle.cj_draft.specs.declared.code.Code.{Code}
use Rattle.cj_draft.specs.declared.passes.Pass.{Pass}
use Rattle.cj_draft.specs.declared.passes.Pass.TheVariants.{Anchors, Assume, Delay, Const, Inline}
use Rattle.cj_draft.specs.declared.passes.Skipped.{Skipped}
use Rattle.cj_draft.specs.Skips.{told}
use Rattle.cj_anchor.specs.AnchorInsertion.{AreAnchored}
use Rattle.cj_passes.specs.Lowering.{IsLowered}
use Rattle.cj_assume.specs.ImmediateAssume.{assume_offence, IsAfter}
use Rattle.cj_delay.specs.DelayedAssume.{delay_offence, IsAfterDelay}
use Rattle.cj_const.specs.Folding.{IsFolded}
use Rattle.cj_inline.specs.Inlining as inlining

-- ---- one pass

unfoldable pub listed : Option Skipped → List Skipped
listed None = []
listed (Some skipped) = skipped ∷ []

-- why something was skipped, without its place
unfoldable pub reasons : List (ℕ × Skipped) → List Skipped
reasons skips = map (λ skip. skip.1) skips

unfoldable pub or_own : FunId → Option FunId → FunId
or_own own None = own
or_own own (Some f) = f

-- what is inlined at a label: the base body of the function that is called there (of the code's own where none is called,
-- and nothing is inlined)
unfoldable pub callee_at : Program → Code → Label → Code
callee_at P code label = base_code P (or_own code.function (inlining.called_at code label))

-- `made` is the code after the pass, and this was skipped of it
abbrev pub IsPassed : Program → Code → Pass → Code → List Skipped → Type 0
IsPassed P code (Anchors places) made skipped =
    (skips : List (ℕ × Skipped)) × AreAnchored 0 code places made skips × (skipped ≡ reasons skips)
IsPassed P code (Assume anchor guards) made skipped =
    IsAfter code anchor guards made × (skipped ≡ listed (assume_offence code anchor guards))
IsPassed P code (Delay path guards) made skipped =
    IsAfterDelay P code path guards made × (skipped ≡ listed (delay_offence P code path guards))
IsPassed P code Const made skipped = IsFolded [] code made × (skipped ≡ [])
IsPassed P code (Inline call) made skipped =
    inlining.IsAfter P code call (callee_at P code call) made
    × (skipped ≡ listed (inlining.inline_offence code call (callee_at P code call)))

-- ---- a list of passes

-- with the number of the pass
unfoldable pub numbered : ℕ → List Skipped → List (ℕ × Skipped)
numbered number skipped = map (λ reason. (told number, reason)) skipped

-- from the pass `number` of the list on, with these passes left: the code that is made, and what is skipped
pub data ArePassed (P : Program) : ℕ → Code → List Pass → Code → List (ℕ × Skipped) → Type 0 where
  Finished : (number : ℕ) (code : Code) → ArePassed P number code [] code []
  Passed : (number : ℕ) (code next made : Code) (pass : Pass) (passes : List Pass) (skipped : List Skipped) (skips : List (ℕ × Skipped)) →
      IsPassed P code pass next skipped → ArePassed P (number + 1) next passes made skips →
      ArePassed P number code (pass ∷ passes) made (numbered number skipped ++ skips)

-- The passes in their order, each on what the one before made, the first on the base body of the function, make a draft;
-- its lowering is `made`. There is no other, and no other list of what is skipped.
pub record IsPipeline (P : Program) (f : FunId) (passes : List Pass) (made : Code) (skips : List (ℕ × Skipped)) : Type 0 where
  pub draft : Code
  pub passed : ArePassed P 0 (base_code P f) passes draft skips
  pub lowered : IsLowered draft made
