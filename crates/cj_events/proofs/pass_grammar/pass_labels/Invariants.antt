use Rattle.std.proofs.Common.{◌≡◌, length}
use Rattle.cj_tokens.specs.Left.{left, source}
use Rattle.cj_grammar.specs.OneAhead.{eat}
use Rattle.cj_grammar.specs.Rules.{numbers}
use Rattle.cj_events.specs.Rules.{labels}
use Rattle.cj_events.proofs.pass_grammar.pass_labels.Given as goal

abbrev pub invariant-more : goal.invariant-more
invariant-more l =
    record {
      passes : eat labels (left l.fn.tokens) ≡ eat numbers (left l.tokens);
      source : source l.tokens ≡ source l.fn.tokens;
    }

abbrev pub decreases-more : goal.decreases-more
decreases-more l = length (left l.tokens)
