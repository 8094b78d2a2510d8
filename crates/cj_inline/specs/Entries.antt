-- One assignment of the move that enters a callee.
use Rattle.std.specs.Prelude.{ℕ, ◌+◌, List, Option, Some, None, slice_get, pos}
use Rattle.cj_ir.specs.declared.language.Operand.{Operand}
use Rattle.cj_ir.specs.declared.language.Operand.TheVariants.{Const}
use Rattle.cj_draft.specs.declared.instructions.Pair.{Pair}

unfoldable pub or_zero : Option Operand → Operand
or_zero None = Const (pos 0)
or_zero (Some arg) = arg

-- the register of that number gets the argument of that number, or 0 where there is none
unfoldable pub entry_pair : ℕ → List Operand → ℕ → Pair
entry_pair first args index = record { dest = record { 0 = first + index }; value = or_zero (slice_get args index) }
