use Rattle.std.proofs.Common.{All, take}
use Rattle.cj_draft.specs.Bodies.{IsNoAnchor}
use Rattle.cj_test_drafts.proofs.spelling.has_no_anchors.Given as goal

abbrev pub invariant-loop-place : goal.invariant-loop-place
invariant-loop-place l = All (λ place. IsNoAnchor place.instr) (take l.place-index l.place-items)
