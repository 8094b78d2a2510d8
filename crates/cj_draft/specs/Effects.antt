-- What an instruction of a version does. It has the effects of the base machine, and a guarded one.
use Rattle.std.specs.Prelude.{ℕ, List, [], ◌∷◌, map, Bool, true, false, ℤ, slice_set}
use Rattle.std.specs.List.{list_all}
use Rattle.std.specs.Ordering.{int_eq}
use Rattle.cj_ir.specs.Values.{register, operand_value}
use Rattle.cj_ir.specs.declared.language.Label.{Label}
use Rattle.cj_ir.specs.declared.language.Guard.{Guard}
use Rattle.cj_ir.specs.declared.language.Guard.TheVariants.{Is, Never}
use Rattle.cj_base.specs.Machine.{Effect, On, Calls, Returns, Faults, FailedAt, branch, op_effect, load_effect, store_effect}
use Rattle.cj_draft.specs.declared.points.Point.{Point}
use Rattle.cj_draft.specs.declared.instructions.Pair.{Pair}
use Rattle.cj_draft.specs.declared.instructions.VInstr.{VInstr}
use Rattle.cj_draft.specs.declared.instructions.VInstr.TheVariants.{Nop, Op, Move, Cond, Call, Return, Print, Load, Store, Fail, Assume, Anchor}

pub data VersionEffect : Type 0 where
  Plain : Effect → VersionEffect
  -- goes on at `next` where the guards hold, and else leaves for the target, `back` base turns ago
  Guarded : (holds : Bool) (back : ℕ) (target : Point) (next : Label) → VersionEffect

unfoldable pub guard_holds : List ℤ → Guard → Bool
guard_holds regs (Is reg value) = int_eq (register regs reg.0) value
guard_holds regs Never = false

unfoldable pub guards_hold : List ℤ → List Guard → Bool
guards_hold regs guards = list_all (guard_holds regs) guards

-- the assignments of a move: their operands are read in `regs`, all of them before the first is written
unfoldable pub moved : List ℤ → List Pair → List ℤ → List ℤ
moved regs [] now = now
moved regs (pair ∷ pairs) now = moved regs pairs (slice_set now pair.dest.0 (operand_value regs pair.value))

-- the effect of an instruction over a version's registers and a memory; an Anchor is an Assume without guards
unfoldable pub version_effect : VInstr → List ℤ → List ℤ → VersionEffect
version_effect (Nop next) regs m = Plain (On next regs m [])
version_effect (Op dest expr next) regs m = Plain (op_effect dest expr next regs m)
version_effect (Move pairs next) regs m = Plain (On next (moved regs pairs regs) m [])
version_effect (Cond test then_to else_to) regs m =
    Plain (On (branch (operand_value regs test) then_to else_to) regs m [])
version_effect (Call dest f args next) regs m = Plain (Calls dest f (map (operand_value regs) args) next)
version_effect (Return value) regs m = Plain (Returns (operand_value regs value))
version_effect (Print value next) regs m = Plain (On next regs m (operand_value regs value ∷ []))
version_effect (Load dest address next) regs m = Plain (load_effect dest (operand_value regs address) next regs m)
version_effect (Store address value next) regs m =
    Plain (store_effect (operand_value regs address) (operand_value regs value) next regs m)
version_effect (Fail f label) regs m = Plain (Faults (FailedAt f label))
version_effect (Assume guards back target next) regs m = Guarded (guards_hold regs guards) back target next
version_effect (Anchor back target next) regs m = Guarded true back target next
