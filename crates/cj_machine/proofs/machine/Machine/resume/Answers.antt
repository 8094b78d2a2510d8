use Rattle.std.proofs.Common.{◌≡◌, refl, rules, to_z, of_z, w64}
use Rattle.std.proofs.lemmas.List.{append-nil}
use Rattle.cj_machine.specs.Machines.{state_of}
use Rattle.cj_machine.specs.Versions.{counted}
use Rattle.cj_machine.proofs.machine.Machine.resume.Goals as goal

pub returns-clause-made : goal.returns-clause-made
unfolding state_of counted
returns-clause-made c =
    let value : to_z w64 (of_z w64 c.args.value) ≡ c.args.value = search (rules, c.ranges.value.sfits) in
    rw (c.count.ensures, c.give_back.ensures, append-nil, value) refl
