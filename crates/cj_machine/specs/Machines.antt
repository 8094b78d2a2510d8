-- The code's state of a run, and what a step of an activation makes of it.
use Rattle.std.specs.Prelude.{◌≡◌, ◌≤◌, ◌<◌, ◌+◌, List, [], length, ℤ}
use Rattle.cj_ir.specs.declared.language.Label.{Label}
use Rattle.cj_base.specs.declared.machine.Turned.{Turned}
use Rattle.cj_base.specs.declared.machine.Turned.TheVariants.{Running, Ended}
use Rattle.cj_base.specs.Machine.{Effect, On, Faults, end_of}
use Rattle.cj_machine.specs.declared.machine.Machine as code
use Rattle.cj_machine.specs.Versions.{State, Progress, Continues, Finishes, counted, moved_to}

-- the state of the versioned machine in which the code's machine is
unfoldable pub state_of : code.Machine → State
state_of m = record {
  stack = m.activations;
  memory = m.memory;
  printed = m.printed;
  turns = m.turns;
  base_turns = m.base_turns;
  fails = m.fails;
  entries = length m.looks;
  notes = m.notes;
}

-- few turns were made, and no more base turns or failed Assumes
pub record IsEarly (s : State) : Type 0 where
  pub turns : s.turns < 1000000
  pub base_turns : s.base_turns ≤ s.turns
  pub fails : s.fails ≤ s.turns + 1

-- the top goes on at a label with these registers, and a base turn is counted
unfoldable pub went_on : State → Label → List ℤ → List ℤ → List ℤ → State
went_on s next regs memory printed =
    counted s (record { top = moved_to s.stack.top next regs; waiting = s.stack.waiting }) memory printed s.entries

-- what is left after an answer
abbrev pub progress_of : Turned → State → Progress
progress_of Running s = Continues s
progress_of (Ended end) s = Finishes end s

-- a turn by that effect, which neither calls nor returns, was made
abbrev pub CarriesOut : Effect → Turned → State → State → Type 0
CarriesOut (On next regs memory printed) answer old new =
    progress_of answer new ≡ Continues (went_on old next regs memory printed)
CarriesOut (Faults fault) answer old new =
    progress_of answer new ≡ Finishes (end_of fault) (counted old old.stack old.memory [] old.entries)
CarriesOut e answer old new = ⊥
