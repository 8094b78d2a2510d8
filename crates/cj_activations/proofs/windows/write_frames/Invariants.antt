use Rattle.std.proofs.Common.{drop, ◌≤◌}
use Rattle.std.specs.Prelude.{vec_capacity}
use Rattle.cj_activations.specs.Windows.{Pushes, Extends}
use Rattle.cj_activations.proofs.windows.write_frames.Given as goal

abbrev pub invariant-loop-place : goal.invariant-loop-place
invariant-loop-place l = record {
  pushed : Pushes (drop l.place l.frames) l.fn.windows.items l.windows.items l.fn.values.items l.values.items;
  windows : Extends l.fn.windows.items l.windows.items;
  values : Extends l.fn.values.items l.values.items;
  capacity : vec_capacity l.fn.values ≤ vec_capacity l.values;
}
