use Rattle.std.proofs.Common.{◌≡◌, ◌++◌, drop}
use Rattle.cj_passes.specs.Pipeline.{reasons, numbered}
use Rattle.cj_passes.proofs.skips.push_all.Given as goal

-- what is appended by now, with what is left, is all
abbrev pub invariant-loop-skip : goal.invariant-loop-skip
invariant-loop-skip l =
    l.skips ++ numbered l.fn.number (reasons (drop l.skip-index l.skipped)) ≡ l.fn.skips ++ numbered l.fn.number (reasons l.skipped)
