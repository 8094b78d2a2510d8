-- Constant facts of a code: what leaves its labels, tables of facts that agree with it, and the strongest of these.
use Rattle.std.specs.Prelude.{◌≡◌, ◌==◌, List, [], ◌∷◌, length, All, Contains, ⊤, Option, Some, None, ℤ, if◌then◌else◌, slice_index_or}
use Rattle.std.specs.Option.{option_and_then}
use Rattle.std.specs.Ordering.{int_eq}
use Rattle.cj_ir.specs.declared.language.Label.{Label}
use Rattle.cj_ir.specs.declared.language.Reg.{Reg}
use Rattle.cj_ir.specs.declared.language.Guard.{Guard}
use Rattle.cj_ir.specs.declared.language.Guard.TheVariants.{Is, Never}
use Rattle.cj_base.specs.Machine.{branch}
use Rattle.cj_draft.specs.declared.facts.Fact.{Fact}
use Rattle.cj_draft.specs.declared.facts.Facts.{Facts}
use Rattle.cj_draft.specs.declared.facts.Facts.TheVariants.{Unreached, Known}
use Rattle.cj_draft.specs.declared.instructions.Pair.{Pair}
use Rattle.cj_draft.specs.declared.instructions.VInstr.{VInstr}
use Rattle.cj_draft.specs.declared.instructions.VInstr.TheVariants.{Nop, Op, Move, Cond, Call, Return, Print, Load, Store, Fail, Assume, Anchor}
use Rattle.cj_draft.specs.declared.code.Place.{Place}
use Rattle.cj_draft.specs.declared.code.Code.{Code}
use Rattle.cj_draft.specs.WellNamed.{HasFineFacts}
use Rattle.cj_draft.specs.Arrives.{place_at}
use Rattle.cj_draft.specs.Sound.{AreAmong}
use Rattle.cj_draft.specs.Edges.{successors}
use Rattle.cj_const.specs.Knowledge.{Knowledge, told_by, with_known, known_value, folded_operands, evaluated}
use Rattle.cj_const.specs.declared.knowledge.Outcome.{Outcome}
use Rattle.cj_const.specs.declared.knowledge.Outcome.TheVariants.{Unknown, Value, ZeroDivisor}

-- ---- what leaves a label along an edge; None where nothing arrives

-- after an op: its destination has the value, or nothing is known of it; nothing goes on past a zero divisor
unfoldable pub after_op : Knowledge → Reg → Outcome → Option Knowledge
after_op k dest Unknown = Some (with_known k dest.0 None)
after_op k dest (Value v) = Some (with_known k dest.0 (Some v))
after_op k dest ZeroDivisor = None

-- after a move: each destination has what `k` knows of its operand
unfoldable pub after_move : Knowledge → List Pair → Knowledge → Knowledge
after_move k [] now = now
after_move k (pair ∷ pairs) now = after_move k pairs (with_known now pair.dest.0 (known_value k pair.value))

-- along an edge of a cond: where the test's value is known, on the edge that is taken alone
unfoldable pub along : Knowledge → Option ℤ → Label → Label → Label → Option Knowledge
along k None then_to else_to to = Some k
along k (Some v) then_to else_to to = if (branch v then_to else_to).0 == to.0 then Some k else None

-- with a guard that holds: its register has its value; nothing goes on where another value is known of it
unfoldable pub with_value : Knowledge → Reg → ℤ → Option ℤ → Option Knowledge
with_value k reg value None = Some (with_known k reg.0 (Some value))
with_value k reg value (Some w) = if int_eq w value then Some k else None

unfoldable pub with_guard : Guard → Knowledge → Option Knowledge
with_guard (Is reg value) k = with_value k reg value (k reg.0)
with_guard Never k = None

-- with all of the guards
unfoldable pub with_guards : List Guard → Option Knowledge → Option Knowledge
with_guards [] known = known
with_guards (guard ∷ guards) known = with_guards guards (option_and_then (with_guard guard) known)

-- what leaves the instruction along its edge to a label
unfoldable pub leaves : Knowledge → VInstr → Label → Option Knowledge
leaves k (Nop next) to = Some k
leaves k (Op dest expr next) to = after_op k dest (evaluated (folded_operands k expr))
leaves k (Move pairs next) to = Some (after_move k pairs k)
leaves k (Cond test then_to else_to) to = along k (known_value k test) then_to else_to to
leaves k (Call dest f args next) to = Some (with_known k dest.0 None)
leaves k (Return value) to = None
leaves k (Print value next) to = Some k
leaves k (Load dest address next) to = Some (with_known k dest.0 None)
leaves k (Store address value next) to = Some k
leaves k (Fail f label) to = None
leaves k (Assume guards back target next) to = with_guards guards (Some k)
leaves k (Anchor back target next) to = Some k

-- ---- tables: for each label, facts

-- the facts of a label; those of one that is not there are never asked for
abbrev pub facts_at : List Facts → Label → Facts
facts_at table label = slice_index_or table label.0 Unreached

-- the facts say no more than others
abbrev pub SaysNoMore : Facts → Facts → Type 0
SaysNoMore facts Unreached = ⊤
SaysNoMore Unreached (Known others) = ⊥
SaysNoMore (Known facts) (Known others) = All (Contains others) facts

-- the facts say no more than what arrives, or nothing arrives
abbrev pub IsWithin : Facts → Option Knowledge → Type 0
IsWithin facts None = ⊤
IsWithin Unreached (Some k) = ⊥
IsWithin (Known facts) (Some k) = All (λ fact. k fact.reg.0 ≡ Some fact.value) facts

-- The table has facts for each label: the entry's are Known, and each of them is one of the context; and along each edge
-- from a label with Known facts the next label's say no more than what leaves.
pub record IsConsistent (context : List Fact) (code : Code) (table : List Facts) : Type 0 where
  pub count : length table ≡ length code.places
  pub fine : All (HasFineFacts code.regs) table
  pub entry : AreAmong context (facts_at table code.entry)
  pub edges : (label to : Label) (place : Place) (facts : List Fact) →
      place_at code label ≡ Some place → facts_at table label ≡ Known facts → Contains (successors place.instr) to →
      IsWithin (facts_at table to) (leaves (told_by facts) place.instr to)

-- The table is consistent, and every consistent one says no more at any label. There is no other.
pub record IsStrongest (context : List Fact) (code : Code) (table : List Facts) : Type 0 where
  pub consistent : IsConsistent context code table
  pub strongest : (other : List Facts) → IsConsistent context code other → (label : Label) →
      SaysNoMore (facts_at other label) (facts_at table label)
