-- How the code's activations change, in the words of the versioned machine.
use Rattle.std.proofs.Common.{◌≡◌, ◌∙◌, ap, refl, List, [], ◌∷◌, ◌++◌, ℤ, append-nil, Option, None, Some}
use Rattle.std.specs.Prelude.{IsSome}
use Rattle.cj_base.specs.declared.machine.Turned.TheVariants.{Running}
use Rattle.cj_base.specs.Machine.{On, Fault, BadAddress, with_value, cell, with_cell, store_effect}
use Rattle.cj_ir.specs.declared.language.Label.{Label}
use Rattle.cj_activations.specs.Activations.{VersionFrame, Active, InBase, InVersion}
use Rattle.cj_activations.specs.Changes.{active_regs, with_label, with_regs}
use Rattle.cj_machine.specs.Versions.{State, Continues, counted, moved_to}
use Rattle.cj_calls.specs.declared.report.Look.{Look}
use Rattle.cj_machine.specs.declared.machine.Machine.{Machine}
use Rattle.cj_machine.specs.Machines.{state_of, CarriesOut, went_on}

pub labelled : (a : Active) (next : Label) → with_label a next ≡ moved_to a next (active_regs a)
unfolding with_label moved_to active_regs
labelled (InBase fr) next = refl
labelled (InVersion v) next = refl

pub lands : (a : Active) (regs : List ℤ) (next : Label) → with_label (with_regs a regs) next ≡ moved_to a next regs
unfolding with_label with_regs moved_to
lands (InBase fr) regs next = refl
lands (InVersion v) regs next = refl

stored_in : (o : Option ℤ) (fault : Fault) (next : Label) (regs memory : List ℤ) (old new : State) → IsSome o
    → Continues new ≡ Continues (went_on old next regs memory [])
    → CarriesOut (with_value o fault (λ v. On next regs memory [])) Running old new
unfolding with_value
stored_in None fault next regs memory old new some is = let never : ⊥ = cc in absurd never
stored_in (Some v) fault next regs memory old new some is = is

-- a store at an address that has a cell
pub stored : (address value : ℤ) (next : Label) (regs memory : List ℤ) (old new : State) → IsSome (cell memory address)
    → Continues new ≡ Continues (went_on old next regs (with_cell memory address value) [])
    → CarriesOut (store_effect address value next regs memory) Running old new
unfolding store_effect
stored address value next regs memory old new some is =
    stored_in (cell memory address) (BadAddress address) next regs (with_cell memory address value) old new some is

-- a value is printed, and then the top goes on
pub printed_more : (s : State) (printed : List ℤ) (next : Label) (regs memory : List ℤ) (v : ℤ) → printed ≡ s.printed ++ v ∷ []
    → went_on (record s { printed = printed }) next regs memory [] ≡ went_on s next regs memory (v ∷ [])
unfolding went_on counted
printed_more s printed next regs memory v e = rw (append-nil, e) refl

-- a version goes on behind an Assume
pub passes : (a : Active) (next : Label) (v : VersionFrame) → a ≡ InVersion v → with_label a next ≡ moved_to (InVersion v) next v.regs
unfolding with_label moved_to
passes a next v e = rw e refl

-- a machine is its state and its looks
abbrev machine_in : State → List Look → Machine
machine_in s looks = record {
  activations = s.stack;
  memory = s.memory;
  printed = s.printed;
  turns = s.turns;
  base_turns = s.base_turns;
  fails = s.fails;
  looks = looks;
  notes = s.notes;
}

pub same_machine : (a b : Machine) → state_of a ≡ state_of b → a.looks ≡ b.looks → a ≡ b
unfolding state_of
same_machine a b state looks = ap (λ (s : State). machine_in s a.looks) state ∙ ap (machine_in (state_of b)) looks
