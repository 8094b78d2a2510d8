use Rattle.std.proofs.Common.{sym, ap, map}
use Rattle.cj_tokens.specs.Scan.{lexeme_in}
use Rattle.cj_tokens.specs.Left.{left, stream}
use Rattle.cj_tokens.proofs.EndsLaws.{one_end}
use Rattle.cj_tokens.proofs.tokens.Tokens.of.Goals as goal

pub returns-clause-stream : goal.returns-clause-stream
unfolding stream
returns-clause-stream c = sym c.scan.ensures.found

pub returns-clause-left : goal.returns-clause-left
unfolding left stream
returns-clause-left c = ap (map lexeme_in) (sym c.scan.ensures.found)

pub returns-clause-end : goal.returns-clause-end
returns-clause-end c = one_end 0 1 0 c.args.bytes.now
