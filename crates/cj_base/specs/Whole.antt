-- What the run of a call up to its limit gives.
use Rattle.std.specs.Prelude.{◌≡◌, ◌≢◌, ℕ, ◌≤◌, List, ℤ}
use Rattle.cj_ir.specs.declared.language.Program.{Program}
use Rattle.cj_base.specs.declared.machine.End.{End}
use Rattle.cj_base.specs.declared.machine.End.TheVariants.{TurnLimit}
use Rattle.cj_base.specs.declared.calls.Outcome.{Outcome}
use Rattle.cj_base.specs.Run.{Begun, GoesOn, EndStands}

-- The outcome is the base run's. It says TurnLimit where that run has not ended at the call's limit.
pub record IsOutcomeOf (P : Program) (call : Begun) (o : Outcome) : Type 0 where
  pub ended : o.end ≢ TurnLimit → EndStands P call o.turns o.printed o.end × (1 ≤ o.turns)
  pub limited : o.end ≡ TurnLimit → (o.turns ≡ call.limit) × GoesOn P call o.turns o.printed
  pub within : o.turns ≤ call.limit

-- Each end of the base run within the call's limit is the outcome's.
abbrev pub IsWhole : Program → Begun → Outcome → Type 0
IsWhole P call o =
    (n : ℕ) (printed : List ℤ) (end : End) → EndStands P call n printed end → n ≤ call.limit → (o.turns ≡ n) × (o.printed ≡ printed) × (o.end ≡ end)
