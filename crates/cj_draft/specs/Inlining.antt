-- What inlining makes of a callee's instructions and points: registers and labels shifted, and the caller's frames
-- appended.
use Rattle.std.specs.Prelude.{ℕ, zero, suc, ◌+◌, List, [], ◌∷◌, ◌++◌, map, Option, Some, pos}
use Rattle.cj_ir.specs.Program.{instr_at}
use Rattle.cj_ir.specs.declared.language.Program.{Program}
use Rattle.cj_ir.specs.declared.language.Instr.{Instr}
use Rattle.cj_ir.specs.declared.language.Instr.TheVariants as base
use Rattle.cj_ir.specs.declared.language.Label.{Label}
use Rattle.cj_ir.specs.declared.language.Reg.{Reg}
use Rattle.cj_ir.specs.declared.language.Operand.{Operand}
use Rattle.cj_ir.specs.declared.language.Operand.TheVariants as operand
use Rattle.cj_ir.specs.declared.language.Guard.{Guard}
use Rattle.cj_ir.specs.declared.language.Guard.TheVariants.{Is, Never}
use Rattle.cj_draft.specs.declared.points.PointFrame.{PointFrame}
use Rattle.cj_draft.specs.declared.points.Point.{Point}
use Rattle.cj_draft.specs.declared.facts.Fact.{Fact}
use Rattle.cj_draft.specs.declared.facts.Facts.{Facts}
use Rattle.cj_draft.specs.declared.facts.Facts.TheVariants.{Unreached, Known}
use Rattle.cj_draft.specs.declared.instructions.Pair.{Pair}
use Rattle.cj_draft.specs.declared.code.Place.{Place}
use Rattle.cj_draft.specs.declared.instructions.VInstr.{VInstr}
use Rattle.cj_draft.specs.declared.instructions.VInstr.TheVariants.{Nop, Op, Move, Cond, Call, Return, Print, Load, Store, Fail, Assume, Anchor}
use Rattle.cj_draft.specs.Operands.{with_operands}

-- the callee's registers follow the caller's n
unfoldable pub shift_reg : ℕ → Reg → Reg
shift_reg n reg = record { 0 = n + reg.0 }

-- the callee's labels follow the caller's k
unfoldable pub shift_label : ℕ → Label → Label
shift_label k label = record { 0 = k + label.0 }

unfoldable pub shift_operand : ℕ → Operand → Operand
shift_operand n (operand.Reg reg) = operand.Reg (shift_reg n reg)
shift_operand n (operand.Const value) = operand.Const value

unfoldable pub shift_guard : ℕ → Guard → Guard
shift_guard n (Is reg value) = Is (shift_reg n reg) value
shift_guard n Never = Never

unfoldable pub shift_pair : ℕ → Pair → Pair
shift_pair n pair = record { dest = shift_reg n pair.dest; value = shift_operand n pair.value }

unfoldable pub shift_frame : ℕ → PointFrame → PointFrame
shift_frame n f = record { function = f.function; label = f.label; dest = f.dest; map = map (shift_operand n) f.map }

-- the callee's point, with the caller's frames appended
unfoldable pub joined : ℕ → List PointFrame → Point → Point
joined n tail point = record { frames = map (shift_frame n) point.frames ++ tail }

-- The callee's instruction in the caller: n registers and k labels come before it, `tail` are the caller's frames, and a
-- return becomes a move of its value to the call's destination, which goes on after the call.
unfoldable pub inlined_instr : ℕ → ℕ → List PointFrame → Reg → Label → VInstr → VInstr
inlined_instr n k tail to after (Nop next) = Nop (shift_label k next)
inlined_instr n k tail to after (Op dest e next) = Op (shift_reg n dest) (with_operands (shift_operand n) e) (shift_label k next)
inlined_instr n k tail to after (Move pairs next) = Move (map (shift_pair n) pairs) (shift_label k next)
inlined_instr n k tail to after (Cond test then_to else_to) =
    Cond (shift_operand n test) (shift_label k then_to) (shift_label k else_to)
inlined_instr n k tail to after (Call dest f args next) =
    Call (shift_reg n dest) f (map (shift_operand n) args) (shift_label k next)
inlined_instr n k tail to after (Return value) = Move (record { dest = to; value = shift_operand n value } ∷ []) after
inlined_instr n k tail to after (Print value next) = Print (shift_operand n value) (shift_label k next)
inlined_instr n k tail to after (Load dest address next) =
    Load (shift_reg n dest) (shift_operand n address) (shift_label k next)
inlined_instr n k tail to after (Store address value next) =
    Store (shift_operand n address) (shift_operand n value) (shift_label k next)
inlined_instr n k tail to after (Fail f label) = Fail f label
inlined_instr n k tail to after (Assume guards back target next) =
    Assume (map (shift_guard n) guards) back (joined n tail target) (shift_label k next)
inlined_instr n k tail to after (Anchor back target next) = Anchor back (joined n tail target) (shift_label k next)

unfoldable pub shift_fact : ℕ → Fact → Fact
shift_fact n fact = record { reg = shift_reg n fact.reg; value = fact.value }

-- the facts of the call's place together with the callee's own
unfoldable pub joined_facts : ℕ → Facts → Facts → Facts
joined_facts n Unreached own = Unreached
joined_facts n (Known facts) Unreached = Unreached
joined_facts n (Known facts) (Known own) = Known (facts ++ map (shift_fact n) own)

unfoldable pub appended_by : Option Instr → PointFrame → List PointFrame → List PointFrame
appended_by (Some (base.Call dest f args next)) first others =
    record { function = first.function; label = next; dest = dest; map = first.map } ∷ others
appended_by instr first others = []

-- The frames that are appended to the callee's points: those of the call's point, the first of them after its base call and
-- with that call's destination. There are none where the base instruction is no call.
unfoldable pub appended_frames : Program → List PointFrame → List PointFrame
appended_frames P [] = []
appended_frames P (first ∷ others) = appended_by (instr_at P first.function first.label) first others

-- The assignments that enter the callee: its registers, which begin at `first`, get the arguments, and 0 after them.
unfoldable pub entry_pairs : ℕ → List Operand → ℕ → List Pair
entry_pairs first args zero = []
entry_pairs first [] (suc count) =
    record { dest = record { 0 = first }; value = operand.Const (pos 0) } ∷ entry_pairs (suc first) [] count
entry_pairs first (arg ∷ args) (suc count) =
    record { dest = record { 0 = first }; value = arg } ∷ entry_pairs (suc first) args count

-- the place of the call, which is now a move to the callee's entry
unfoldable pub call_place : ℕ → ℕ → Label → List Operand → Place → Place
call_place n count to args place = record {
  instr = Move (entry_pairs n args count) to;
  point = place.point;
  facts = place.facts;
  backs = place.backs;
}
