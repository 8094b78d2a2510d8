use Rattle.std.proofs.Common.{◌≡◌, length}
use Rattle.cj_tokens.specs.Left.{left, source}
use Rattle.cj_grammar.specs.OneAhead.{eat}
use Rattle.cj_grammar.specs.Rules.{more_funs, funs}
use Rattle.cj_grammar.proofs.functions.pass_funs.Given as goal

abbrev pub invariant-more : goal.invariant-more
invariant-more l =
    record {
      passes : eat funs (left l.fn.tokens) ≡ eat more_funs (left l.tokens);
      source : source l.tokens ≡ source l.fn.tokens;
    }

abbrev pub decreases-more : goal.decreases-more
decreases-more l = length (left l.tokens)
