-- What a read of all bytes leaves and why it fails, where the bytes are known.
use Rattle.std.specs.Prelude.{◌≡◌, ℕ, ◌+◌, ◌≤◌, ◌<◌, List, length, Option, Some, None, ⊤}
use Rattle.std.specs.Io.KnownBytes.{Consumes}
use Rattle.cj_io.specs.Faults.{Rose}
use Rattle.cj_io.specs.declared.whole.ReadError.{ReadError}
use Rattle.cj_io.specs.declared.whole.ReadError.TheVariants.{ReadFault, TooLong, NoMemory}

-- some of the known bytes were taken off the front
abbrev pub HasTaken : Option (List ℕ) → Option (List ℕ) → Type 0
HasTaken given left = (taken : List ℕ) × Consumes given left taken

-- at most that many of the known bytes were taken off
abbrev pub GaveAtMost : Option (List ℕ) → Option (List ℕ) → ℕ → Type 0
GaveAtMost None left limit = ⊤
GaveAtMost (Some given) None limit = ⊥
GaveAtMost (Some given) (Some left) limit = length given ≤ limit + length left

-- more than that many of the known bytes were taken off
abbrev pub GaveMore : Option (List ℕ) → Option (List ℕ) → ℕ → Type 0
GaveMore None left limit = ⊤
GaveMore (Some given) None limit = ⊥
GaveMore (Some given) (Some left) limit = limit + length left < length given

-- Why not all bytes were read, with the bytes and the counts of faults before and after. A read fault alone raises the
-- count; want of memory may come at any time.
abbrev pub HasReadCause : (given left : Option (List ℕ)) (limit before now : ℕ) → ReadError → Type 0
HasReadCause given left limit before now ReadFault = Rose before now × GaveAtMost given left limit
HasReadCause given left limit before now (TooLong named) = (named ≡ limit) × GaveMore given left limit × (now ≡ before)
HasReadCause given left limit before now NoMemory = now ≡ before
