use Rattle.std.proofs.Common.{◌≡◌, length, []}
use Rattle.cj_tokens.specs.Left.{left, source}
use Rattle.cj_script.specs.Reading.{setups_at}
use Rattle.cj_script.proofs.setups.read_setups.Given as goal

abbrev pub invariant-setups : goal.invariant-setups
invariant-setups l =
    record {
      same : setups_at l.functions [] (left l.fn.tokens) ≡ setups_at l.functions l.setups (left l.tokens);
      source : source l.tokens ≡ source l.fn.tokens;
    }

abbrev pub decreases-setups : goal.decreases-setups
decreases-setups l = length (left l.tokens)
