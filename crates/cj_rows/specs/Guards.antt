-- What is asked of the guards that go to an Assume.
use Rattle.std.specs.Prelude.{ℕ, Bool, true, false, nat_lt, List, [], ◌∷◌, Option, Some, None}
use Rattle.cj_draft.specs.declared.limits.TheConstants.{MAX_GUARDS}
use Rattle.cj_ir.specs.declared.language.Guard.{Guard}
use Rattle.cj_ir.specs.declared.language.Guard.TheVariants.{Is, Never}
use Rattle.cj_draft.specs.declared.passes.Room.TheVariants.{Guards}
use Rattle.cj_draft.specs.declared.passes.Skipped.{Skipped}
use Rattle.cj_draft.specs.declared.passes.Skipped.TheVariants.{NoRegister}
use Rattle.cj_draft.specs.Skips.{told}
use Rattle.cj_rows.specs.Rooms.{if_full}

unfoldable pub or_next : Option Skipped → Option Skipped → Option Skipped
or_next None others = others
or_next (Some skipped) others = Some skipped

unfoldable pub if_missing : Bool → Skipped → Option Skipped
if_missing true skipped = None
if_missing false skipped = Some skipped

-- a guard whose register is not among so many
unfoldable pub guard_offence : ℕ → Guard → Option Skipped
guard_offence regs (Is reg value) = if_missing (nat_lt reg.0 regs) (NoRegister reg)
guard_offence regs Never = None

-- the first of the guards whose register is not among so many
unfoldable pub register_offence : ℕ → List Guard → Option Skipped
register_offence regs [] = None
register_offence regs (guard ∷ guards) = or_next (guard_offence regs guard) (register_offence regs guards)

-- an Assume may have 8 guards
unfoldable pub guards_offence : ℕ → Option Skipped
guards_offence count = if_full (nat_lt MAX_GUARDS count) Guards (told count) None
