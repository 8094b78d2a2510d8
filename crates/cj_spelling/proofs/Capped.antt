-- Capped counts add up to the capped sum.
use Rattle.std.proofs.Common.{◌≡◌, ℕ, ◌+◌, arith}
use Rattle.cj_spelling.specs.Counting.{capped}

pub capped_more : (m n : ℕ) → capped (capped m + n) ≡ capped (m + n)
capped_more m n = omega arith
