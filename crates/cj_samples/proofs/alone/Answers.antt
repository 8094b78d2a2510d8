use Rattle.std.proofs.Common.{◌≡◌, ◌≢◌, ◌∷◌, [], Err, refl}
use Rattle.std.proofs.lemmas.Result.{IfErr-weaker}
use Rattle.cj_ir.specs.Verdicts.{program_verdict}
use Rattle.cj_ir.specs.declared.checker.CheckError.TheVariants as offences
use Rattle.cj_samples.proofs.alone.Goals as goal

pub returns-in-Ok-clause-refused : goal.returns-in-Ok-clause-refused
returns-in-Ok-clause-refused c =
    let whole : c.push.new.self ≡ c.args.function ∷ [] = rw (c.in-Ok.ensures.ok, c.new-functions.ensures) refl in
    IfErr-weaker c.check.result (λ offence. program_verdict (record { functions = c.push.new.self }) ≡ Err offence)
    (λ offence. offence ≢ offences.NoMemory → program_verdict (record { functions = c.args.function ∷ [] }) ≡ Err offence)
    (λ offence stands other. rw whole at stands) c.check.ensures.first
