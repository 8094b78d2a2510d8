use Rattle.std.proofs.Common.{◌≡◌, length, drop, Some}
use Rattle.cj_const.specs.Knowledge.{known}
use Rattle.cj_const.specs.Flow.{with_guards}
use Rattle.cj_const.proofs.flow.with_guards.Given as goal

abbrev pub invariant-loop-guard : goal.invariant-loop-guard
invariant-loop-guard l = record {
  left : with_guards (drop l.guard-index l.guards) (Some (known l.made)) ≡ with_guards l.guards (Some (known l.fn.row));
  width : length l.made ≡ length l.fn.row;
}
