-- Tables that tell where edges are led.
use Rattle.std.specs.Prelude.{◌≡◌, ℕ, ◌<◌, List, length, Some, slice_get, slice_index_or}
use Rattle.cj_ir.specs.declared.language.Label.{Label}

-- for each label below n, what `f` gives for it
pub record IsTable (f : Label → Label) (n : ℕ) (table : List Label) : Type 0 where
  pub count : length table ≡ n
  pub at : (label : Label) → label.0 < n → slice_get table label.0 ≡ Some (f label)

-- the label that the table gives for a label; others stay
unfoldable pub given : List Label → Label → Label
given table label = slice_index_or table label.0 label
