-- What a seat has read of a version.
use Rattle.std.specs.Prelude.{ℕ, List}
use Rattle.cj_ir.specs.declared.language.FunId.{FunId}
use Rattle.cj_draft.specs.declared.code.Code.{Code}
use Rattle.cj_spelling.specs.Spells.{Spells}
use Rattle.cj_publish.specs.declared.view.Cell.{Cell}
use Rattle.cj_publish.specs.declared.view.View.{View}
use Rattle.cj_publish.specs.Seen.{ReadWhole}

-- a function's first slot
abbrev pub main_of : FunId → Cell
main_of f = record { function = f; slot = 0 }

-- the region of the cell at that offset was read whole, and spells the code
abbrev pub HasVersion : View → Cell → ℕ → Code → Type 0
HasVersion v c offset code = (words : List ℕ) × ReadWhole v c offset words × Spells words code
