use Rattle.std.proofs.Common.{◌≡◌, length}
use Rattle.cj_tokens.specs.Left.{left, source}
use Rattle.cj_grammar.specs.OneAhead.{eat}
use Rattle.cj_events.specs.Rules.{more_guards, guards}
use Rattle.cj_events.proofs.pass_grammar.pass_guards.Given as goal

abbrev pub invariant-more : goal.invariant-more
invariant-more l =
    record {
      passes : eat guards (left l.fn.tokens) ≡ eat more_guards (left l.tokens);
      source : source l.tokens ≡ source l.fn.tokens;
    }

abbrev pub decreases-more : goal.decreases-more
decreases-more l = length (left l.tokens)
