-- The words of the functions' slots: word 0 is the first unclaimed word, then come those of the functions in order.
use Rattle.std.specs.Prelude.{ℕ, ◌+◌, ◌*◌, ◌<◌, length}
use Rattle.cj_ir.specs.declared.language.Program.{Program}
use Rattle.cj_publish.specs.declared.view.Cell.{Cell}
use Rattle.cj_publish.specs.declared.view.Key.{Key}
use Rattle.cj_publish.specs.declared.view.Told.{Told}

abbrev pub program_in : Key → Program
program_in k = k.program

abbrev pub key_in : Told → Key
key_in t = record { program = t.program.value; slots = t.slots; size = t.size }

-- how many slots all functions have together
unfoldable pub cells : Key → ℕ
cells k = k.slots * length (program_in k).functions

-- the number of a slot; its word is the next one
unfoldable pub number : Key → Cell → ℕ
number k c = k.slots * c.function.0 + c.slot

-- a slot of a function of the program
pub record IsCell (k : Key) (c : Cell) : Type 0 where
  pub function : c.function.0 < length (program_in k).functions
  pub slot : c.slot < k.slots
