use Rattle.std.proofs.Common.{◌≡◌, length, ◌%◌, ◌^◌}
use Rattle.cj_samples.specs.Samples.{lines_of}
use Rattle.cj_samples.proofs.lines.Given as goal

abbrev pub invariant-loop-instr : goal.invariant-loop-instr
invariant-loop-instr l = (l.lines ≡ lines_of l.yielded) × (l.name ≡ length l.yielded % 2 ^ 32)
