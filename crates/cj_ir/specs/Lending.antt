-- What a list ends as that lends one of its items.
use Rattle.std.specs.Prelude.{ℕ, List, slice_set}
use Rattle.std.specs.Borrow.{Lends, Fml, RattleType, MutBor}
use Rattle.cj_ir.specs.contracts.sequence.Sequence.{the_row}

-- it ends with the last value behind r as its item at the index, and its other items as they were
abbrev pub LendsItem : (T : RattleType) → MutBor (List T.Denot) → ℕ → MutBor T.Denot → Fml
LendsItem T list at r = Lends (the_row T) T list r (slice_set list.now at)
