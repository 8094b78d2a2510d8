use Rattle.std.proofs.Common.{All, take}
use Rattle.cj_ir.specs.Values.{IsOperandWithin}
use Rattle.cj_test_drafts.proofs.draft.is_point_within.Given as goal

abbrev pub invariant-loop-frame : goal.invariant-loop-frame
invariant-loop-frame l = All (λ f. All (IsOperandWithin l.count) f.map) (take l.frame-index l.frame-items)
