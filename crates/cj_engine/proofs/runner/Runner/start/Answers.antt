use Rattle.std.proofs.Common.{◌∙◌, refl, subst}
use Rattle.cj_ir.specs.declared.language.Program.{Program}
use Rattle.cj_machine.specs.Machines.{state_of}
use Rattle.cj_engine.specs.Engines.{begun_with}
use Rattle.cj_machine.specs.Marks.{start_marks}
use Rattle.cj_machine.specs.CodeMaps.{SoundCodes}
use Rattle.std.proofs.lemmas.Option.{slice_get_within}
use Rattle.cj_engine.proofs.Onwards.{entry_told, refused_so}
use Rattle.cj_engine.proofs.Carrying.{start_made}
use Rattle.cj_machine.proofs.Going.{start_is_run}
use Rattle.cj_engine.proofs.runner.Runner.start.Goals as goal

pub returns-clause-made : goal.returns-clause-made
unfolding state_of
returns-clause-made g c =
    let looks = rw c.new-looks.ensures at c.in_ok-push.ensures.ok in
    let stack = rw c.items-args.ensures at c.in_ok-activations.ensures in
    start_made c.args.checked.now (g.W.Watch.codes c.enter.new.self) c.args.call.now c.args.memory c.new-2.result c.push.new.self c.new-3.result _
    c.entry_at-entry.result.position c.entry_at-entry.result.count c.in_ok-activations.activations
    c.new-2.ensures c.new-3.ensures looks (c.entry_at-entry.ensures c.args.call.now.args) stack

pub returns-clause-went : goal.returns-clause-went
unfolding start_marks begun_with
returns-clause-went g c = rw c.items-args.ensures at c.in_ok-offset.ensures.went

pub returns-clause-run : goal.returns-clause-run
unfolding state_of begun_with
returns-clause-run g c =
    let looks = rw c.new-looks.ensures at c.in_ok-push.ensures.ok in
    let stack = rw c.items-args.ensures at c.in_ok-activations.ensures in
    let codes = g.W.Watch.codes c.enter.new.self in
    let made = start_made c.args.checked.now codes c.args.call.now c.args.memory c.new-2.result c.push.new.self c.new-3.result _
    c.entry_at-entry.result.position c.entry_at-entry.result.count c.in_ok-activations.activations
    c.new-2.ensures c.new-3.ensures looks (c.entry_at-entry.ensures c.args.call.now.args) stack in
    let sound = subst (λ (P : Program). SoundCodes P codes) (c.in_ok-offset.ensures.same ∙ c.requires.program)
    (g.met.W.Watch.sound c.enter.new.self c.in_ok-offset.ensures.ready) in
    start_is_run c.args.checked.now codes c.push.new.self (begun_with c.args.call.now c.args.memory) _ c.program-program.ensures.well_formed sound
    c.requires.takes c.requires.limit.1 refl made

pub entry_at-entry-requires-clause-inside : goal.entry_at-entry-requires-clause-inside
entry_at-entry-requires-clause-inside g c =
    slice_get_within _ _ c.requires.takes.0 c.requires.takes.1

pub returns-in_err-offset-clause-told : goal.returns-in_err-offset-clause-told
unfolding start_marks begun_with
returns-in_err-offset-clause-told g c =
    refused_so _ _ (rw c.items-args.ensures at c.in_err-offset.ensures.no_memory)

pub returns-in_err-push-clause-told : goal.returns-in_err-push-clause-told
unfolding start_marks begun_with
returns-in_err-push-clause-told g c =
    let told = rw c.items-args.ensures at c.in_ok-offset.ensures.went in
    refused_so _ _ (entry_told (g.W.Watch.went c.args.watch.now c.enter.new.self) (g.W.Watch.trail c.args.watch.now)
    (g.W.Watch.trail c.enter.new.self) c.args.call.now.function c.args.call.now.args c.in_ok-offset.offset told c.in_ok-offset.ensures.looked)

pub returns-in_err-activations-clause-told : goal.returns-in_err-activations-clause-told
unfolding start_marks begun_with
returns-in_err-activations-clause-told g c =
    let told = rw c.items-args.ensures at c.in_ok-offset.ensures.went in
    refused_so _ _ (entry_told (g.W.Watch.went c.args.watch.now c.enter.new.self) (g.W.Watch.trail c.args.watch.now)
    (g.W.Watch.trail c.enter.new.self) c.args.call.now.function c.args.call.now.args c.in_ok-offset.offset told c.in_ok-offset.ensures.looked)
