use Rattle.cj_tokens.specs.Seen.{seen}
use Rattle.cj_tokens.proofs.Wells.{well_name}
use Rattle.cj_tokens.proofs.tokens.Tokens.front.Goals as goal

pub returns-else-self-clause-name : goal.returns-else-self-clause-name
returns-else-self-clause-name c = λ e. well_name (seen c.args.self.now.ahead.lexeme) c.args.self.now.well e
