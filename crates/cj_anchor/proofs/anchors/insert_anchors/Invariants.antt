use Rattle.std.proofs.Common.{◌≡◌, ℕ, List, ◌++◌, drop}
use Rattle.cj_draft.specs.declared.code.Code.{Code}
use Rattle.cj_draft.specs.declared.passes.Skipped.{Skipped}
use Rattle.cj_draft.specs.Sound.{Sound}
use Rattle.cj_anchor.specs.AnchorInsertion.{AreAnchored}
use Rattle.cj_anchor.proofs.anchors.insert_anchors.Given as goal

abbrev pub invariant-loop-index : goal.invariant-loop-index
invariant-loop-index l = record {
  function : l.code.function ≡ l.fn.draft.code.function;
  sound : Sound l.fn.draft.program l.fn.draft.context l.fn.draft.code.function l.code;
  rest : (made : Code) (skips : List (ℕ × Skipped)) → AreAnchored l.index l.code (drop l.index l.places) made skips →
      AreAnchored 0 l.fn.draft.code l.places made (l.skips ++ skips);
}
