use Rattle.std.proofs.Common.{sym, subst}
use Rattle.std.specs.Prelude.{All}
use Rattle.cj_ir.specs.declared.language.Program.{Program}
use Rattle.cj_script.specs.Fitting.{FitsCall}
use Rattle.cj_roles.proofs.caller.run_and_finish.Goals as goal

pub run_calls-answer-requires-clause-calls : goal.run_calls-answer-requires-clause-calls
run_calls-answer-requires-clause-calls g c = subst (λ (P : Program). All (FitsCall P.functions) c.args.shared.now.calls.now)
    (sym c.requires.tables.0) c.requires.run.calls
