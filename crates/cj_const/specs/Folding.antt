-- A code folded over a table of facts.
use Rattle.std.specs.Prelude.{◌≡◌, ℕ, zero, suc, ◌||◌, List, [], ◌∷◌, ◌++◌, map, Option, Some, None, Bool, true, false, not, ℤ, if◌then◌else◌}
use Rattle.std.specs.List.{list_any, filter}
use Rattle.std.specs.Ordering.{int_eq}
use Rattle.cj_ir.specs.declared.language.Label.{Label}
use Rattle.cj_ir.specs.declared.language.Operand.{Operand}
use Rattle.cj_ir.specs.declared.language.Operand.TheVariants as operand
use Rattle.cj_ir.specs.declared.language.Expr.{Expr}
use Rattle.cj_ir.specs.declared.language.Expr.TheVariants.{Copy}
use Rattle.cj_ir.specs.declared.language.Guard.{Guard}
use Rattle.cj_ir.specs.declared.language.Guard.TheVariants.{Is, Never}
use Rattle.cj_base.specs.Machine.{branch}
use Rattle.cj_draft.specs.declared.facts.Fact.{Fact}
use Rattle.cj_draft.specs.declared.facts.Facts.{Facts}
use Rattle.cj_draft.specs.declared.facts.Facts.TheVariants.{Unreached, Known}
use Rattle.cj_draft.specs.declared.instructions.Pair.{Pair}
use Rattle.cj_draft.specs.declared.instructions.VInstr.{VInstr}
use Rattle.cj_draft.specs.declared.instructions.VInstr.TheVariants.{Nop, Op, Move, Cond, Call, Return, Print, Load, Store, Fail, Assume, Anchor}
use Rattle.cj_draft.specs.declared.code.Place.{Place}
use Rattle.cj_draft.specs.declared.code.Code.{Code}
use Rattle.cj_const.specs.Knowledge.{Knowledge, told_by, known_value, folded_operand, folded_operands, evaluated}
use Rattle.cj_const.specs.declared.knowledge.Outcome.{Outcome}
use Rattle.cj_const.specs.declared.knowledge.Outcome.TheVariants.{Unknown, Value, ZeroDivisor}
use Rattle.cj_const.specs.Flow.{IsStrongest}

-- ---- instructions

unfoldable pub copy_or : Expr → Outcome → Expr
copy_or e Unknown = e
copy_or e (Value v) = Copy (operand.Const v)
copy_or e ZeroDivisor = e

-- The expression with constants in the place of known registers, or a copy of its value where it has one. A division by
-- 0 stays.
unfoldable pub folded_expr : Knowledge → Expr → Expr
folded_expr k e = copy_or (folded_operands k e) (evaluated (folded_operands k e))

unfoldable pub folded_pair : Knowledge → Pair → Pair
folded_pair k pair = record { dest = pair.dest; value = folded_operand k pair.value }

-- a cond whose test is known is a nop to the label that it takes
unfoldable pub folded_cond : Operand → Option ℤ → Label → Label → VInstr
folded_cond test None then_to else_to = Cond test then_to else_to
folded_cond test (Some v) then_to else_to = Nop (branch v then_to else_to)

unfoldable pub is_other : ℤ → Option ℤ → Bool
is_other value None = false
is_other value (Some w) = not (int_eq w value)

-- the guard is false; `never` always is
unfoldable pub is_false : Knowledge → Guard → Bool
is_false k (Is reg value) = is_other value (k reg.0)
is_false k Never = true

unfoldable pub is_open_at : Option ℤ → Bool
is_open_at None = true
is_open_at (Some w) = false

-- nothing is known of the guard's register
unfoldable pub is_open : Knowledge → Guard → Bool
is_open k (Is reg value) = is_open_at (k reg.0)
is_open k Never = true

-- `never` alone where a guard is false; else those of which it is not known that they are true
unfoldable pub folded_guards : Knowledge → List Guard → List Guard
folded_guards k guards = if list_any (is_false k) guards then Never ∷ [] else filter (is_open k) guards

unfoldable pub folded_instr : Knowledge → VInstr → VInstr
folded_instr k (Nop next) = Nop next
folded_instr k (Op dest expr next) = Op dest (folded_expr k expr) next
folded_instr k (Move pairs next) = Move (map (folded_pair k) pairs) next
folded_instr k (Cond test then_to else_to) = folded_cond test (known_value k test) then_to else_to
folded_instr k (Call dest f args next) = Call dest f (map (folded_operand k) args) next
folded_instr k (Return value) = Return (folded_operand k value)
folded_instr k (Print value next) = Print (folded_operand k value) next
folded_instr k (Load dest address next) = Load dest (folded_operand k address) next
folded_instr k (Store address value next) = Store (folded_operand k address) (folded_operand k value) next
folded_instr k (Fail f label) = Fail f label
folded_instr k (Assume guards back target next) = Assume (folded_guards k guards) back target next
folded_instr k (Anchor back target next) = Anchor back target next

-- ---- facts

unfoldable pub fact_if : ℕ → Option ℤ → List Fact
fact_if r None = []
fact_if r (Some v) = record { reg = record { 0 = r }; value = v } ∷ []

-- the facts of the registers below n, in their order
unfoldable pub facts_below : Knowledge → ℕ → List Fact
facts_below k zero = []
facts_below k (suc n) = facts_below k n ++ fact_if n (k n)

unfoldable pub differ : Option ℤ → Option ℤ → Bool
differ None other = false
differ (Some v) None = false
differ (Some v) (Some w) = not (int_eq v w)

-- two values meet for a register below n
unfoldable pub clash : Knowledge → Knowledge → ℕ → Bool
clash k k' zero = false
clash k k' (suc n) = clash k k' n || differ (k n) (k' n)

unfoldable pub or_else : Option ℤ → Option ℤ → Option ℤ
or_else None other = other
or_else (Some v) other = Some v

-- what either knows
unfoldable pub both : Knowledge → Knowledge → Knowledge
both k k' r = or_else (k r) (k' r)

unfoldable pub together_of : ℕ → Knowledge → Knowledge → Facts
together_of n k k' = if clash k k' n then Unreached else Known (facts_below (both k k') n)

-- Two lists of facts together: Unreached where either is, or where two values meet for one of n registers.
unfoldable pub together : ℕ → Facts → Facts → Facts
together n Unreached facts = Unreached
together n (Known old) Unreached = Unreached
together n (Known old) (Known facts) = together_of n (told_by old) (told_by facts)

-- ---- places and codes

-- where no facts are known the instruction stays
unfoldable pub folded_by : Facts → VInstr → VInstr
folded_by Unreached instr = instr
folded_by (Known facts) instr = folded_instr (told_by facts) instr

-- the point and the pairs stay
unfoldable pub folded_place : ℕ → Place → Facts → Place
folded_place n place facts =
    record {
      instr = folded_by facts place.instr;
      point = place.point;
      facts = together n place.facts facts;
      backs = place.backs;
    }

-- each place over the facts of its label, in order
unfoldable pub folded_places : ℕ → List Place → List Facts → List Place
folded_places n [] table = []
folded_places n (place ∷ places) [] = []
folded_places n (place ∷ places) (facts ∷ table) = folded_place n place facts ∷ folded_places n places table

unfoldable pub folded : Code → List Facts → Code
folded code table = record code { places = folded_places code.regs code.places table }

-- `made` is the code folded over its strongest table. There is no other.
abbrev pub IsFolded : List Fact → Code → Code → Type 0
IsFolded context code made = (table : List Facts) × IsStrongest context code table × (made ≡ folded code table)
