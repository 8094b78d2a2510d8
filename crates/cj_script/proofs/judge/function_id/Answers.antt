use Rattle.std.proofs.Common.{sym}
use Rattle.cj_tokens.specs.Seen.{seen}
use Rattle.cj_script.proofs.Fails.{refused_fails}
use Rattle.cj_script.proofs.Naming.{unnamed_judged}
use Rattle.cj_script.proofs.judge.function_id.Goals as goal

pub returns-in-None-clause-named : goal.returns-in-None-clause-named
returns-in-None-clause-named c =
    refused_fails _ _ _ c.refused-in-None.ensures
    (unnamed_judged c.args.functions.now (seen c.args.name) c.if-name-gt-MAX_NAME.false (sym c.in-None.ensures.place))
