use Rattle.std.proofs.Common.{◌≡◌}
use Rattle.cj_machine.proofs.Assigning.{IsWritten}
use Rattle.cj_machine.proofs.steps.write_pairs.Given as goal

abbrev pub invariant-loop-place : goal.invariant-loop-place
invariant-loop-place l = record {
  written : IsWritten l.pairs l.values l.place l.fn.activations.top l.activations.top;
  waiting : l.activations.waiting ≡ l.fn.activations.waiting;
}
