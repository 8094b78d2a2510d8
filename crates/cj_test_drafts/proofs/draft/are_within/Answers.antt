use Rattle.std.proofs.Common.{sym, take}
use Rattle.std.proofs.lemmas.List.{take_all}
use Rattle.std.proofs.lemmas.List.Elements.{All-more, All-same}
use Rattle.cj_ir.specs.Values.{IsOperandWithin}
use Rattle.cj_ir.specs.declared.language.Operand.TheVariants.{Reg}
use Rattle.cj_test_drafts.proofs.draft.are_within.Goals as goal

pub loop-operand-preserved : goal.loop-operand-preserved
loop-operand-preserved c =
    All-more (IsOperandWithin c.args.count) c.args.operands.now c.loop-operand.operand-index (Reg (record { 0 = 0 })) c.loop-operand-test.true
    c.loop-operand.invariant (c.is_within.ensures c.if-not-is_within.false)

pub returns : goal.returns
returns c = λ e.
    let all = take_all c.loop-operand.operand-index c.args.operands.now c.loop-operand-test.false in
    All-same (IsOperandWithin c.args.count) c.args.operands.now (take c.loop-operand.operand-index c.args.operands.now) (sym all) c.loop-operand.invariant
