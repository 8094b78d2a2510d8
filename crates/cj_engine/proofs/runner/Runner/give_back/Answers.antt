use Rattle.std.proofs.Common.{◌≡◌, ◌∙◌, sym, ap, rules, to_z, of_z, w64, Some}
use Rattle.cj_machine.specs.Machines.{state_of}
use Rattle.cj_engine.proofs.Carrying.{base_dest, base_returned, version_innermost, version_dest, version_returned, none_returned}
use Rattle.cj_engine.proofs.runner.Runner.give_back.Goals as goal

pub resume-requires-clause-dest : goal.resume-requires-clause-dest
resume-requires-clause-dest g c =
    base_dest (g.W.Watch.codes c.args.watch.now) _ c.in-Some-Base.label _ (sym c.waiting.ensures ∙ c.in-Some-Base.is ∙ ap Some c.in-Some-Base.field-0-is)
    c.requires.callers

pub caller_at-caller-requires-clause-caller : goal.caller_at-caller-requires-clause-caller
caller_at-caller-requires-clause-caller g c =
    let i = version_innermost (g.W.Watch.codes c.args.watch.now) c.args.self.now.machine.activations.waiting c.in-Some-Version.function
    c.in-Some-Version.offset c.in-Some-Version.label
    (sym c.waiting.ensures ∙ c.in-Some-Version.is ∙ ap Some c.in-Some-Version.field-0-is) c.requires.callers in
    (i.regs, i.caller)

pub resume-requires-in-Some-Version-clause-dest : goal.resume-requires-in-Some-Version-clause-dest
resume-requires-in-Some-Version-clause-dest g c =
    let i = version_innermost (g.W.Watch.codes c.args.watch.now) c.args.self.now.machine.activations.waiting c.in-Some-Version.function
    c.in-Some-Version.offset c.in-Some-Version.label
    (sym c.waiting.ensures ∙ c.in-Some-Version.is ∙ ap Some c.in-Some-Version.field-0-is) c.requires.callers in
    version_dest _ _ _ _ _ _ i (c.caller_at-caller.ensures i.regs i.caller).0

pub returns-in-None-clause-made : goal.returns-in-None-clause-made
unfolding state_of
returns-in-None-clause-made g c =
    let value : to_z w64 (of_z w64 c.args.value) ≡ c.args.value = search (rules, c.ranges.value.sfits) in
    rw (c.end.ensures.ended, c.end.ensures.same, value)
    (none_returned (g.W.Watch.codes c.args.watch.now) (state_of c.args.self.now.machine) c.args.value (sym c.waiting.ensures ∙ c.in-None.is))

pub returns-in-Some-Base-clause-made : goal.returns-in-Some-Base-clause-made
unfolding state_of
returns-in-Some-Base-clause-made g c =
    let value : to_z w64 (of_z w64 c.args.value) ≡ c.args.value = search (rules, c.ranges.value.sfits) in
    rw (c.resume.ensures.made, value)
    (base_returned (g.W.Watch.codes c.args.watch.now) (state_of c.args.self.now.machine) c.in-Some-Base.label c.in-Some-Base.dest c.args.value
    (sym c.waiting.ensures ∙ c.in-Some-Base.is ∙ ap Some c.in-Some-Base.field-0-is))

pub returns-in-Some-Version-clause-made : goal.returns-in-Some-Version-clause-made
unfolding state_of
returns-in-Some-Version-clause-made g c =
    let value : to_z w64 (of_z w64 c.args.value) ≡ c.args.value = search (rules, c.ranges.value.sfits) in
    let i = version_innermost (g.W.Watch.codes c.args.watch.now) c.args.self.now.machine.activations.waiting c.in-Some-Version.function
    c.in-Some-Version.offset c.in-Some-Version.label
    (sym c.waiting.ensures ∙ c.in-Some-Version.is ∙ ap Some c.in-Some-Version.field-0-is) c.requires.callers in
    let both = c.caller_at-caller.ensures i.regs i.caller in
    rw (c.resume-in-Some-Version.ensures.made, value)
    (version_returned (g.W.Watch.codes c.args.watch.now) (state_of c.args.self.now.machine) c.in-Some-Version.function c.in-Some-Version.offset
    c.in-Some-Version.label _ _ c.args.value i both.0 both.1)
