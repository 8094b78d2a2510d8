-- When two stacks are the same for the rest of a run.
use Rattle.std.specs.Prelude.{◌≡◌}
use Rattle.cj_ir.specs.declared.language.Program.{Program}
use Rattle.cj_base.specs.Machine.{Stack}

-- they are equal
unfoldable pub Same : Program → Stack → Stack → Type 0
Same P a b = a ≡ b
