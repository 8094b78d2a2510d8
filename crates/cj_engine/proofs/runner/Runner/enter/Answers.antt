use Rattle.std.proofs.Common.{refl}
use Rattle.cj_machine.specs.Machines.{state_of}
use Rattle.cj_engine.proofs.Carrying.{call_made}
use Rattle.cj_engine.proofs.Onwards.{entry_told, refused_so}
use Rattle.cj_engine.proofs.runner.Runner.enter.Goals as goal

pub count-requires : goal.count-requires
unfolding state_of
count-requires g c = record { turns = c.requires.early.turns; base_turns = c.requires.early.base_turns; fails = c.requires.early.fails }

pub returns-in-Ok-clause-made : goal.returns-in-Ok-clause-made
unfolding state_of
returns-in-Ok-clause-made g c =
    let old = c.args.self.now.machine in
    let call = rw c.items-args.ensures at c.in-Ok.ensures.ok in
    rw c.count.ensures
    (call_made c.args.self.now.checked.now _ (state_of old) old.looks c.push.new.self _ c.args.dest c.args.function c.args.self.now.scratch c.args.next
    _ _ c.call.new.self c.in_ok-push.ensures.ok refl (c.entry_at-entry.ensures _) call)

pub returns-in_err-offset-clause-told : goal.returns-in_err-offset-clause-told
returns-in_err-offset-clause-told g c =
    refused_so _ _ (rw c.items-args.ensures at c.in_err-offset.ensures.no_memory)

pub returns-in_err-push-clause-told : goal.returns-in_err-push-clause-told
returns-in_err-push-clause-told g c =
    let told = rw c.items-args.ensures at c.in_ok-offset.ensures.went in
    refused_so _ _ (entry_told (g.W.Watch.went c.args.watch.now c.enter.new.self) (g.W.Watch.trail c.args.watch.now)
    (g.W.Watch.trail c.enter.new.self) c.args.function c.args.self.now.scratch c.in_ok-offset.offset told c.in_ok-offset.ensures.looked)

pub returns-in-Err-clause-told : goal.returns-in-Err-clause-told
returns-in-Err-clause-told g c =
    let told = rw c.items-args.ensures at c.in_ok-offset.ensures.went in
    entry_told (g.W.Watch.went c.args.watch.now c.enter.new.self) (g.W.Watch.trail c.args.watch.now) (g.W.Watch.trail c.enter.new.self) c.args.function
    c.args.self.now.scratch c.in_ok-offset.offset told c.in_ok-offset.ensures.looked
