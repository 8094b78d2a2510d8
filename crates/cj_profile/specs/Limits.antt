-- The counts of a program's functions are within the limits.
use Rattle.std.specs.Prelude.{◌≤◌}
use Rattle.cj_ir.specs.Program.{param_count, label_count}
use Rattle.cj_ir.specs.declared.limits.TheConstants.{MAX_PARAMS, MAX_LABELS}
use Rattle.cj_ir.specs.declared.language.FunId.{FunId}
use Rattle.cj_ir.specs.declared.language.Program.{Program}

abbrev pub IsLimited : Program → Type 0
IsLimited p = (f : FunId) → (param_count p f ≤ MAX_PARAMS) × (label_count p f ≤ MAX_LABELS)
