use Rattle.std.proofs.Common.{◌≡◌, arith, to_z, of_z, w64}
use Rattle.std.proofs.lemmas.Grind.{common_steps}
use Rattle.cj_machine.specs.Machines.{state_of}
use Rattle.cj_machine.specs.Stepping.{marks_told}
use Rattle.cj_engine.specs.Watching.{TellsAtMost}
use Rattle.cj_engine.proofs.Carrying.{enters_step, returns_step}
use Rattle.cj_engine.proofs.Onwards.{refused_so}
use Rattle.cj_engine.proofs.runner.Runner.carry.Goals as goal

pub give_back-requires-clause-callers : goal.give_back-requires-clause-callers
unfolding state_of
give_back-requires-clause-callers g c = (rw c.in-Returns.is at c.requires.fits).1

pub returns-in-Goes-clause-went : goal.returns-in-Goes-clause-went
unfolding marks_told
returns-in-Goes-clause-went g c = rw c.in-Goes.is (g.met.W.Watch.went_nowhere _)

pub returns-in-Branches-clause-went : goal.returns-in-Branches-clause-went
unfolding marks_told
returns-in-Branches-clause-went g c = rw c.in-Branches.is c.branched.ensures.went

pub returns-in-Ends-clause-went : goal.returns-in-Ends-clause-went
unfolding marks_told
returns-in-Ends-clause-went g c = rw c.in-Ends.is (g.met.W.Watch.went_nowhere _)

pub returns-in_ok-enter-in-Enters-clause-made : goal.returns-in_ok-enter-in-Enters-clause-made
unfolding state_of
returns-in_ok-enter-in-Enters-clause-made g c = λ turn before is.
    enters_step _ turn _ before _ _ _ _ _ _ _ (rw c.in-Enters.is at is) c.in_ok-enter-in-Enters.ensures.made

pub returns-in_ok-enter-in-Enters-clause-went : goal.returns-in_ok-enter-in-Enters-clause-went
unfolding marks_told
returns-in_ok-enter-in-Enters-clause-went g c = rw c.in-Enters.is c.in_ok-enter-in-Enters.ensures.went

pub returns-in-Returns-clause-made : goal.returns-in-Returns-clause-made
unfolding state_of
returns-in-Returns-clause-made g c =
    let value : to_z w64 (of_z w64 c.in-Returns.value) ≡ c.in-Returns.value = grind (arith, common_steps) in
    let made = rw value at c.give_back.ensures.made in
    λ turn before is. returns_step c.args.self.now.checked.now turn c.args.self.now.scratch before _ _ _ _ _ (rw c.in-Returns.is at is) made

pub returns-in-Returns-clause-went : goal.returns-in-Returns-clause-went
unfolding marks_told
returns-in-Returns-clause-went g c = rw c.in-Returns.is (g.met.W.Watch.went_nowhere _)

pub returns-in-Fails-clause-went : goal.returns-in-Fails-clause-went
unfolding marks_told
returns-in-Fails-clause-went g c = rw c.in-Fails.is c.failed.ensures.went

pub returns-in_err-enter-in-Enters-clause-told : goal.returns-in_err-enter-in-Enters-clause-told
unfolding marks_told
returns-in_err-enter-in-Enters-clause-told g c =
    let told : TellsAtMost (g.W.Watch.went c.args.watch.now c.enter.new.watch) (g.W.Watch.trail c.args.watch.now) (g.W.Watch.trail c.enter.new.watch)
    (marks_told c.args.step c.args.function c.args.label c.args.self.now.scratch) = rw c.in-Enters.is c.in_err-enter-in-Enters.ensures.told in
    refused_so _ _ told
