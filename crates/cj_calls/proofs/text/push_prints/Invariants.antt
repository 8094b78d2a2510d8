use Rattle.std.proofs.Common.{◌≡◌, ◌++◌, drop}
use Rattle.cj_calls.specs.Output.{prints_text}
use Rattle.cj_calls.proofs.text.push_prints.Given as goal

abbrev pub invariant-loop-value : goal.invariant-loop-value
invariant-loop-value l =
    l.text.items ++ prints_text (drop l.value-index l.printed) ≡ l.fn.text.items ++ prints_text l.fn.printed
