-- Sources and sinks in memory, which fail at the calls that they are told.
use Rattle.std.specs.Prelude.{ℕ, ◌==◌, nat_lt, if◌then◌else◌, ◌+◌, ◌^◌, min, Bool, false, List, ◌++◌, length, drop}
use Rattle.std.specs.List.{list_any}
use Rattle.cj_io.specs.Faults.{one_more}

-- The numbers of the calls that fail, the number of the next call, and the count of faults. Calls
-- are counted from 1. Numbers from 2 ^ 64 on are not told apart: no call of such a number fails.
pub record Calls : Type 0 where
  pub fails : List ℕ
  pub next : ℕ
  pub faults : ℕ

-- whether the next call fails
abbrev pub fails_next : Calls → Bool
fails_next calls = if nat_lt calls.next (2 ^ 64) then list_any (λ number. number == calls.next) calls.fails else false

abbrev pub after_call : Calls → Calls
after_call calls = record calls { next = min (calls.next + 1) (2 ^ 64) }

abbrev pub after_failed_call : Calls → Calls
after_failed_call calls = record calls { next = min (calls.next + 1) (2 ^ 64); faults = one_more calls.faults }

-- The bytes that are left or written, the most bytes that a call moves, and the calls.
pub record Memory : Type 0 where
  pub bytes : List ℕ
  pub piece : ℕ
  pub calls : Calls

abbrev pub new_memory : (bytes : List ℕ) (piece : ℕ) (fails : List ℕ) → Memory
new_memory bytes piece fails = record { bytes = bytes; piece = piece; calls = record { fails = fails; next = 1; faults = 0 } }

-- as many bytes as it can, at most a piece
abbrev pub count_read : Memory → (room : ℕ) → ℕ
count_read memory room = min room (min memory.piece (length memory.bytes))

abbrev pub count_written : Memory → List ℕ → ℕ
count_written memory bytes = min (length bytes) memory.piece

abbrev pub after_read : Memory → ℕ → Memory
after_read memory count = record memory { bytes = drop count memory.bytes; calls = after_call memory.calls }

abbrev pub after_write : Memory → List ℕ → Memory
after_write memory bytes = record memory { bytes = memory.bytes ++ bytes; calls = after_call memory.calls }

abbrev pub after_fault : Memory → Memory
after_fault memory = record memory { calls = after_failed_call memory.calls }

-- the bytes read stand first in the buffer, whose other bytes stay
abbrev pub filled : (buf read : List ℕ) → List ℕ
filled buf read = read ++ drop (length read) buf
