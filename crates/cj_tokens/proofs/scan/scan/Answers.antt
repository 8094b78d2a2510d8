use Rattle.std.proofs.Common.{◌∙◌}
use Rattle.cj_tokens.specs.Seen.{seen}
use Rattle.cj_tokens.proofs.Found.{found_in_slice}
use Rattle.cj_tokens.proofs.scan.scan.Goals as goal

pub returns-clause-found : goal.returns-clause-found
returns-clause-found c = c.skip-start.ensures.same
    ∙ (found_in_slice c.skip-start.result.1 c.skip-start.result.0 c.size-size.result c.args.bytes.now (seen c.lexeme.result) c.skip-start.ensures.stands
    c.size-size.ensures.size c.lexeme.ensures).0

pub returns-clause-well : goal.returns-clause-well
returns-clause-well c =
    (found_in_slice c.skip-start.result.1 c.skip-start.result.0 c.size-size.result c.args.bytes.now (seen c.lexeme.result) c.skip-start.ensures.stands
    c.size-size.ensures.size c.lexeme.ensures).1
