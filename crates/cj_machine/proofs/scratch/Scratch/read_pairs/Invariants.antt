use Rattle.std.proofs.Common.{◌≡◌, ◌≤◌, take, map}
use Rattle.std.specs.Vec.{vec_len, vec_capacity}
use Rattle.cj_ir.specs.Values.{operand_value}
use Rattle.cj_machine.proofs.scratch.Scratch.read_pairs.Given as goal

abbrev pub invariant-loop-pair : goal.invariant-loop-pair
invariant-loop-pair l = record {
  read : l.self-inside.values.items ≡ map (λ pair. operand_value l.regs pair.value) (take l.pair-index l.pair-items);
  count : vec_len l.self-inside.values ≡ l.pair-index;
  room : 128 ≤ vec_capacity l.self-inside.values;
}
