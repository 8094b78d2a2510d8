-- An instruction that is no cond has no cold edge.
use Rattle.std.proofs.Common.{◌≡◌, ℕ, [], Option, Some, None, refl}
use Rattle.cj_profile.specs.declared.snapshot.EdgeNote.{EdgeNote}
use Rattle.cj_plan.specs.Plan.{cold_by}

pub no_targets : (n : ℕ) (o : Option EdgeNote) → cold_by n o None ≡ []
no_targets n None = refl
no_targets n (Some note) = refl
