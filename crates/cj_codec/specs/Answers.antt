-- What the code answered, where a reading is given; want of memory may come at any time.
use Rattle.std.specs.Prelude.{◌≡◌, ℕ, List, Option, None, Some, Result, Ok, Err}
use Rattle.cj_codec.specs.declared.reader.ReadError.{ReadError}
use Rattle.cj_codec.specs.declared.reader.ReadError.TheVariants.{NoSpelling, NoMemory}
use Rattle.cj_codec.specs.declared.reader.WordReader.{WordReader}
use Rattle.cj_spelling.specs.Formats.{Read}

-- the words that are not read yet
abbrev pub left : WordReader → List ℕ
left reader = reader.rest.now

abbrev pub Fails : {Y : Type 0} → ReadError → Option Y → Type 0
Fails NoSpelling read = read ≡ None
Fails NoMemory read = Unit {0}

abbrev pub Found : {X : Type 0} → Result X ReadError → Option X → Type 0
Found (Ok x) read = read ≡ Some x
Found (Err error) read = Fails error read

abbrev pub Gives : {X : Type 0} → Result X ReadError → List ℕ → Read X → Type 0
Gives (Ok x) left read = read ≡ Some (x, left)
Gives (Err error) left read = Fails error read

-- the code appended to items
abbrev pub Grows : {X : Type 0} → Result (Unit {0}) ReadError → X → List ℕ → Read X → Type 0
Grows (Ok u) items left read = read ≡ Some (items, left)
Grows (Err error) items left read = Fails error read
