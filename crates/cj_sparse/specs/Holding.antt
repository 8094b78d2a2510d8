-- Whether guards may hold together.
use Rattle.std.specs.Prelude.{ℕ, ◌==◌, List, [], ◌∷◌, Option, Some, None, Bool, true, false, ℤ, if◌then◌else◌}
use Rattle.std.specs.Ordering.{int_eq}
use Rattle.cj_ir.specs.declared.language.Guard.{Guard}
use Rattle.cj_ir.specs.declared.language.Guard.TheVariants.{Is, Never}
use Rattle.cj_const.specs.Knowledge.{Knowledge}
use Rattle.cj_const.specs.Folding.{or_else}

-- the value that the guard asks of the register, where it is of the register
unfoldable pub asked_by : ℕ → Guard → Option ℤ
asked_by r (Is reg value) = if reg.0 == r then Some value else None
asked_by r Never = None

-- what the first of the guards that is of the register asks
unfoldable pub asked : List Guard → ℕ → Option ℤ
asked [] r = None
asked (guard ∷ guards) r = or_else (asked_by r guard) (asked guards r)

-- the value is this one, where it is known
unfoldable pub fits : ℤ → Option ℤ → Bool
fits value None = true
fits value (Some told) = int_eq told value

-- the guard may hold where all before it do
unfoldable pub may_follow : Knowledge → List Guard → Guard → Bool
may_follow k before (Is reg value) = fits value (or_else (k reg.0) (asked before reg.0))
may_follow k before Never = false
