use Rattle.std.proofs.Common.{◌≡◌, ℕ, List, [], ◌++◌, drop}
use Rattle.cj_draft.specs.BaseBody.{base_code}
use Rattle.cj_draft.specs.declared.code.Code.{Code}
use Rattle.cj_draft.specs.declared.passes.Skipped.{Skipped}
use Rattle.cj_passes.specs.Pipeline.{ArePassed}
use Rattle.cj_passes.proofs.pipelines.pipeline.Given as goal

abbrev pub invariant-loop-number : goal.invariant-loop-number
invariant-loop-number l = record {
  program : l.draft.program ≡ l.checked;
  context : l.draft.context ≡ [];
  function : l.draft.code.function ≡ l.fn.f;
  rest : (made : Code) (later : List (ℕ × Skipped)) → ArePassed l.checked l.number l.draft.code (drop l.number l.passes) made later →
      ArePassed l.checked 0 (base_code l.checked l.fn.f) l.passes made (l.skips ++ later);
}
