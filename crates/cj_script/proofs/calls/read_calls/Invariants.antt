use Rattle.std.proofs.Common.{◌≡◌, ◌≤◌, length, []}
use Rattle.cj_tokens.specs.Left.{left, source}
use Rattle.cj_script.specs.Reading.{limits, calls_at}
use Rattle.cj_script.proofs.calls.read_calls.Given as goal

abbrev pub invariant-calls : goal.invariant-calls
invariant-calls l =
    record {
      same : calls_at l.functions [] (left l.fn.tokens) ≡ calls_at l.functions l.calls (left l.tokens);
      source : source l.tokens ≡ source l.fn.tokens;
      sum : limits l.calls ≡ l.spent;
      spent : l.spent ≤ 4000000;
    }

abbrev pub decreases-calls : goal.decreases-calls
decreases-calls l = length (left l.tokens)
