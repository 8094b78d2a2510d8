-- Counts of words in 64 bits.
use Rattle.std.specs.Prelude.{ℕ, ◌-◌, ◌^◌, min}

-- the count, or the greatest number of 64 bits where it is more
abbrev pub capped : ℕ → ℕ
capped count = min count (2 ^ 64 - 1)
