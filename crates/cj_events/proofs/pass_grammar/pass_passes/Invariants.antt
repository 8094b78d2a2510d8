use Rattle.std.proofs.Common.{◌≡◌, length}
use Rattle.cj_tokens.specs.Left.{left, source}
use Rattle.cj_grammar.specs.OneAhead.{eat}
use Rattle.cj_events.specs.Rules.{passes}
use Rattle.cj_events.proofs.pass_grammar.pass_passes.Given as goal

abbrev pub invariant-more : goal.invariant-more
invariant-more l =
    record {
      passes : eat passes (left l.fn.tokens) ≡ eat passes (left l.tokens);
      source : source l.tokens ≡ source l.fn.tokens;
    }

abbrev pub decreases-more : goal.decreases-more
decreases-more l = length (left l.tokens)
