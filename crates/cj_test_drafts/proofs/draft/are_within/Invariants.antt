use Rattle.std.proofs.Common.{All, take}
use Rattle.cj_ir.specs.Values.{IsOperandWithin}
use Rattle.cj_test_drafts.proofs.draft.are_within.Given as goal

abbrev pub invariant-loop-operand : goal.invariant-loop-operand
invariant-loop-operand l = All (IsOperandWithin l.count) (take l.operand-index l.operands)
