use Rattle.std.proofs.Common.{◌≡◌, take}
use Rattle.std.specs.List.{filter}
use Rattle.cj_const.specs.Knowledge.{known}
use Rattle.cj_const.specs.Folding.{is_open}
use Rattle.cj_const.proofs.instructions.open_guards.Given as goal

abbrev pub invariant-loop-guard : goal.invariant-loop-guard
invariant-loop-guard l = l.made ≡ filter (is_open (known l.row)) (take l.guard-index l.guard-items)
