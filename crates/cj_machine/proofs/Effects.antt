-- What an instruction's effect tells of the instruction.
use Rattle.std.proofs.Common.{◌≡◌, List, [], length, map, Option, Some, None, refl, sym, subst}
use Rattle.std.proofs.lemmas.List.{length-map}
use Rattle.std.specs.Prelude.{ℤ, slice_set, ⊤}
use Rattle.cj_ir.specs.Values.{operand_value, expr_value}
use Rattle.cj_ir.specs.WellFormed.{IsWellFormed, Takes}
use Rattle.cj_ir.specs.Program.{instr_at}
use Rattle.cj_ir.specs.declared.language.Operand.{Operand}
use Rattle.cj_ir.specs.declared.language.Program.{Program}
use Rattle.cj_ir.specs.declared.language.Instr.{Instr}
use Rattle.cj_ir.specs.declared.language.Instr.TheVariants as base
use Rattle.cj_base.specs.declared.machine.Frame.{Frame}
use Rattle.cj_base.specs.Machine.{Fault, BadAddress, ZeroDivisor, Effect, On, Calls, Returns, Faults, effect, with_value, cell, with_cell, op_effect}
use Rattle.cj_base.specs.Machine.{load_effect, store_effect}
use Rattle.cj_base.proofs.FitsLemmas.{fine_at}
use Rattle.cj_draft.specs.declared.instructions.VInstr.{VInstr}
use Rattle.cj_draft.specs.declared.instructions.VInstr.TheVariants.{Nop, Op, Move, Cond, Call, Return, Print, Load, Store, Fail, Assume, Anchor}
use Rattle.cj_draft.specs.Effects.{VersionEffect, Plain, Guarded, version_effect}
use Rattle.cj_draft.specs.Sound.{guard_next}

-- a call's effect takes as many arguments as the function has parameters
abbrev pub TakesOf : Program → Effect → Type 0
TakesOf P (On next regs m printed) = ⊤
TakesOf P (Calls dest f args next) = Takes P.functions f (length args)
TakesOf P (Returns value) = ⊤
TakesOf P (Faults fault) = ⊤

value_takes : (P : Program) (o : Option ℤ) (fault : Fault) (go : ℤ → Effect) → ((v : ℤ) → TakesOf P (go v)) → TakesOf P (with_value o fault go)
unfolding with_value
value_takes P None fault go h = tt
value_takes P (Some v) fault go h = h v

pub effect_takes : (P : Program) → IsWellFormed P → (fr : Frame) (m : List ℤ) (i : Instr) → instr_at P fr.function fr.label ≡ Some i → TakesOf P (effect i fr m)
unfolding effect op_effect load_effect store_effect
effect_takes P formed fr m (base.Nop next) at = tt
effect_takes P formed fr m (base.Op dest e next) at =
    value_takes P (expr_value fr.regs e) ZeroDivisor (λ v. On next (slice_set fr.regs dest.0 v) m []) (λ v. tt)
effect_takes P formed fr m (base.Cond test then_to else_to) at = tt
effect_takes P formed fr m (base.Call dest f args next) at =
    subst (λ n. Takes P.functions f n) (sym (length-map args (operand_value fr.regs)))
    (fine_at P formed fr.function fr.label (base.Call dest f args next) at).1
effect_takes P formed fr m (base.Return value) at = tt
effect_takes P formed fr m (base.Print value next) at = tt
effect_takes P formed fr m (base.Load dest a next) at =
    value_takes P (cell m (operand_value fr.regs a)) (BadAddress (operand_value fr.regs a)) (λ v. On next (slice_set fr.regs dest.0 v) m []) (λ v. tt)
effect_takes P formed fr m (base.Store a v next) at =
    value_takes P (cell m (operand_value fr.regs a)) (BadAddress (operand_value fr.regs a))
    (λ w. On next fr.regs (with_cell m (operand_value fr.regs a) (operand_value fr.regs v)) []) (λ w. tt)
effect_takes P formed fr m (base.Fail text) at = tt

-- a guarded effect is that of an Assume or Anchor with this next label
abbrev pub GuardedBy : VInstr → VersionEffect → Type 0
GuardedBy i (Plain e) = ⊤
GuardedBy i (Guarded holds back target next) = guard_next i ≡ Some next

pub guarded_by : (i : VInstr) (regs m : List ℤ) → GuardedBy i (version_effect i regs m)
unfolding version_effect guard_next
guarded_by (Nop next) regs m = tt
guarded_by (Op dest e next) regs m = tt
guarded_by (Move pairs next) regs m = tt
guarded_by (Cond test then_to else_to) regs m = tt
guarded_by (Call dest f args next) regs m = tt
guarded_by (Return value) regs m = tt
guarded_by (Print value next) regs m = tt
guarded_by (Load dest a next) regs m = tt
guarded_by (Store a v next) regs m = tt
guarded_by (Fail f l) regs m = tt
guarded_by (Assume guards back target next) regs m = refl
guarded_by (Anchor back target next) regs m = refl

-- a call's effect is that of a call
abbrev pub CallsBy : VInstr → List ℤ → Effect → Type 0
CallsBy i regs (On next regs' m printed) = ⊤
CallsBy i regs (Calls dest f args next) =
    (operands : List Operand) × (i ≡ Call dest f operands next) × (map (operand_value regs) operands ≡ args)
CallsBy i regs (Returns value) = ⊤
CallsBy i regs (Faults fault) = ⊤

abbrev pub VersionCallsBy : VInstr → List ℤ → VersionEffect → Type 0
VersionCallsBy i regs (Plain e) = CallsBy i regs e
VersionCallsBy i regs (Guarded holds back target next) = ⊤

value_calls : (i : VInstr) (regs : List ℤ) (o : Option ℤ) (fault : Fault) (go : ℤ → Effect) → ((v : ℤ) → CallsBy i regs (go v)) →
    CallsBy i regs (with_value o fault go)
unfolding with_value
value_calls i regs None fault go h = tt
value_calls i regs (Some v) fault go h = h v

pub calls_by : (i : VInstr) (regs m : List ℤ) → VersionCallsBy i regs (version_effect i regs m)
unfolding version_effect op_effect load_effect store_effect
calls_by (Nop next) regs m = tt
calls_by (Op dest e next) regs m =
    value_calls (Op dest e next) regs (expr_value regs e) ZeroDivisor (λ v. On next (slice_set regs dest.0 v) m []) (λ v. tt)
calls_by (Move pairs next) regs m = tt
calls_by (Cond test then_to else_to) regs m = tt
calls_by (Call dest f args next) regs m = (args, refl, refl)
calls_by (Return value) regs m = tt
calls_by (Print value next) regs m = tt
calls_by (Load dest a next) regs m =
    value_calls (Load dest a next) regs (cell m (operand_value regs a)) (BadAddress (operand_value regs a)) (λ v. On next (slice_set regs dest.0 v) m [])
    (λ v. tt)
calls_by (Store a x next) regs m =
    value_calls (Store a x next) regs (cell m (operand_value regs a)) (BadAddress (operand_value regs a))
    (λ w. On next regs (with_cell m (operand_value regs a) (operand_value regs x)) []) (λ w. tt)
calls_by (Fail f l) regs m = tt
calls_by (Assume guards back target next) regs m = tt
calls_by (Anchor back target next) regs m = tt
