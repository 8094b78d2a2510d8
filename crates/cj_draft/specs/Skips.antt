-- What is told of a pass that is skipped, and the code that it leaves.
use Rattle.std.specs.Prelude.{ℕ, ◌-◌, ◌^◌, min, Option, Some, None}
use Rattle.cj_draft.specs.declared.code.Code.{Code}
use Rattle.cj_draft.specs.declared.passes.Skipped.{Skipped}

-- a number, as a skip tells it
unfoldable pub told : ℕ → ℕ
told number = min number (2 ^ 32 - 1)

-- the code that a pass makes; where it is skipped the old one
unfoldable pub unless : Option Skipped → Code → Code → Code
unless None code made = made
unless (Some skipped) code made = code
