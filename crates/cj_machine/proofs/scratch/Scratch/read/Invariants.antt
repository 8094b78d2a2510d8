use Rattle.std.proofs.Common.{◌≡◌, ◌≤◌, take, map}
use Rattle.std.specs.Vec.{vec_capacity}
use Rattle.cj_ir.specs.Values.{operand_value}
use Rattle.cj_machine.proofs.scratch.Scratch.read.Given as goal

abbrev pub invariant-loop-operand : goal.invariant-loop-operand
invariant-loop-operand l = record {
  read : l.self-inside.values.items ≡ map (operand_value l.regs) (take l.operand-index l.operands);
  room : 128 ≤ vec_capacity l.self-inside.values;
}
