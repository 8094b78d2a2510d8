use Rattle.std.proofs.Common.{◌≡◌, length}
use Rattle.cj_tokens.specs.Left.{left, source}
use Rattle.cj_grammar.specs.OneAhead.{eat}
use Rattle.cj_grammar.specs.Rules.{lines}
use Rattle.cj_grammar.proofs.instructions.pass_lines.Given as goal

abbrev pub invariant-more : goal.invariant-more
invariant-more l =
    record {
      passes : eat lines (left l.fn.tokens) ≡ eat lines (left l.tokens);
      source : source l.tokens ≡ source l.fn.tokens;
    }

abbrev pub decreases-more : goal.decreases-more
decreases-more l = length (left l.tokens)
