use Rattle.std.proofs.Common.{◌≡◌, ◌++◌, length}
use Rattle.cj_tokens.specs.Left.{left, source}
use Rattle.cj_script.specs.Reading.{numbers_at, behind_numbers}
use Rattle.cj_script.proofs.begun.read_numbers.Given as goal

abbrev pub invariant-numbers : goal.invariant-numbers
invariant-numbers l =
    record {
      numbers : numbers_at (left l.fn.tokens) ≡ l.numbers ++ numbers_at (left l.tokens);
      behind : behind_numbers (left l.fn.tokens) ≡ behind_numbers (left l.tokens);
      source : source l.tokens ≡ source l.fn.tokens;
    }

abbrev pub decreases-numbers : goal.decreases-numbers
decreases-numbers l = length (left l.tokens)
