use Rattle.std.proofs.Common.{subst, refl, List, map}
use Rattle.cj_ir.specs.declared.script.Setup.{Setup}
use Rattle.cj_ir.specs.declared.script.ScriptCall.{ScriptCall}
use Rattle.cj_base.specs.Run.{begun}
use Rattle.cj_records.specs.Loops.{IsPrepared}
use Rattle.cj_alone.specs.declared.rounds.Progress.{Progress}
use Rattle.cj_alone.specs.Rounds.{RoundsMade}
use Rattle.cj_alone.proofs.Stores.{alone_stands}
use Rattle.cj_alone.proofs.running.alone_with.Goals as goal

pub returns-clause-versions : goal.returns-clause-versions
returns-clause-versions c =
    let P = c.args.input.now.checked in
    let s = c.in_ok-store.store in
    let start : Progress = record { seats = record { code = s.code_seat; profile = s.profile_seat }; reports = c.new.result; work = c.in_ok-store.warm } in
    alone_stands P c.args.size c.args.input.now.script.setups (map begun c.args.input.now.script.calls) s start c.in_ok-done.done refl
    (subst (λ (xs : List Setup). IsPrepared P c.args.size xs c.in_ok-store.warm s) c.items.ensures c.in_ok-store.ensures)
    c.in_ok-done.ensures.free c.in_ok-done.ensures.same
    (subst (λ (xs : List ScriptCall). RoundsMade P (map begun xs) start c.in_ok-done.done) c.items-calls.ensures c.in_ok-done.ensures.rounds)
