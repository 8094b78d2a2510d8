-- A callee's places inside a caller: registers shifted, labels shifted, and the caller's frames appended.
use Rattle.std.proofs.Common.{◌≡◌, ℕ, suc, ◌+◌, Bool, List, [], ◌∷◌, ◌++◌, length, map, Option, Some, None, refl, ap, ap₂, ◌∙◌, arith}
use Rattle.std.specs.Prelude.{ℤ, pos, slice_set, ◌&&◌}
use Rattle.std.specs.Ordering.{int_eq}
use Rattle.std.proofs.lemmas.List.{map-append, get_or-append-add}
use Rattle.cj_ir.specs.Values.{register, operand_value, expr_value}
use Rattle.cj_ir.specs.declared.language.Label.{Label}
use Rattle.cj_ir.specs.declared.language.Reg.{Reg}
use Rattle.cj_ir.specs.declared.language.Program.{Program}
use Rattle.cj_ir.specs.declared.language.Operand.{Operand}
use Rattle.cj_ir.specs.declared.language.Operand.TheVariants as operand
use Rattle.cj_ir.specs.declared.language.Guard.{Guard}
use Rattle.cj_ir.specs.declared.language.Guard.TheVariants.{Is, Never}
use Rattle.cj_base.specs.Machine.{over, Fault, BadAddress, ZeroDivisor, Effect, On, Calls, Returns, Faults, with_value, cell, with_cell, branch, op_effect}
use Rattle.cj_base.specs.Machine.{load_effect, store_effect}
use Rattle.cj_draft.specs.declared.points.PointFrame.{PointFrame}
use Rattle.cj_draft.specs.declared.instructions.Pair.{Pair}
use Rattle.cj_draft.specs.declared.instructions.VInstr.{VInstr}
use Rattle.cj_draft.specs.declared.instructions.VInstr.TheVariants.{Nop, Op, Move, Cond, Call, Return, Print, Load, Store, Fail, Assume, Anchor}
use Rattle.cj_draft.specs.Points.{frame_regs, top_of, waiting_of, stack_of, frames_of}
use Rattle.cj_draft.specs.Effects.{VersionEffect, Plain, Guarded, guard_holds, guards_hold, moved, version_effect}
use Rattle.cj_draft.specs.Inlining.{shift_reg, shift_label, shift_operand, shift_guard, shift_pair, shift_frame, joined, inlined_instr}
use Rattle.cj_draft.proofs.OperandLemmas.{operands_value}
use Rattle.cj_draft.proofs.Ways.{branch-relabel}

-- ---- values

pub register_shift : (a b : List ℤ) (r : ℕ) → register (a ++ b) (length a + r) ≡ register b r
register_shift a b r = get_or-append-add a b r (pos 0)

pub set_shift : (a b : List ℤ) (r : ℕ) (v : ℤ) → slice_set (a ++ b) (length a + r) v ≡ a ++ slice_set b r v
set_shift [] b r v = let e : 0 + r ≡ r = omega arith in ap (λ k. slice_set b k v) e
set_shift (x ∷ a) b r v =
    let e : suc (length a) + r ≡ suc (length a + r) = omega arith in
    ap (λ k. slice_set (x ∷ (a ++ b)) k v) e ∙ ap (λ z. x ∷ z) (set_shift a b r v)

pub operand_shift : (a b : List ℤ) (o : Operand) → operand_value (a ++ b) (shift_operand (length a) o) ≡ operand_value b o
unfolding shift_operand shift_reg
operand_shift a b (operand.Reg r) = register_shift a b r.0
operand_shift a b (operand.Const v) = refl

pub operands_shift : (a b : List ℤ) (os : List Operand) → map (operand_value (a ++ b)) (map (shift_operand (length a)) os) ≡ map (operand_value b) os
operands_shift a b [] = refl
operands_shift a b (o ∷ os) = ap₂ (λ x xs. x ∷ xs) (operand_shift a b o) (operands_shift a b os)

guard_shift : (a b : List ℤ) (g : Guard) → guard_holds (a ++ b) (shift_guard (length a) g) ≡ guard_holds b g
unfolding guard_holds shift_guard shift_reg
guard_shift a b (Is r v) = ap (λ x. int_eq x v) (register_shift a b r.0)
guard_shift a b Never = refl

guards_shift : (a b : List ℤ) (gs : List Guard) → guards_hold (a ++ b) (map (shift_guard (length a)) gs) ≡ guards_hold b gs
unfolding guards_hold
guards_shift a b [] = refl
guards_shift a b (g ∷ gs) = ap₂ (λ x y. x && y) (guard_shift a b g) (guards_shift a b gs)

moved_shift : (a b c : List ℤ) (ps : List Pair) → moved (a ++ b) (map (shift_pair (length a)) ps) (a ++ c) ≡ a ++ moved b ps c
unfolding moved shift_pair shift_reg
moved_shift a b c [] = refl
moved_shift a b c (p ∷ ps) =
    ap (λ z. moved (a ++ b) (map (shift_pair (length a)) ps) z) (ap (λ v. slice_set (a ++ c) (length a + p.dest.0) v) (operand_shift a b p.value)
    ∙ set_shift a c p.dest.0 (operand_value b p.value))
    ∙ moved_shift a b (slice_set c p.dest.0 (operand_value b p.value)) ps

-- ---- frames

waiting_shift : (P : Program) (a b : List ℤ) (fs : List PointFrame) → map (waiting_of P (a ++ b)) (map (shift_frame (length a)) fs) ≡ map (waiting_of P b) fs
unfolding waiting_of frame_regs shift_frame
waiting_shift P a b [] = refl
waiting_shift P a b (f ∷ fs) =
    ap₂ (λ x xs. record { function = f.function; label = f.label; regs = x; dest = f.dest } ∷ xs) (operands_shift a b f.map) (waiting_shift P a b fs)

-- the frames of a joined point: those of the callee's point, with the caller's below
pub frames_joined : (P : Program) (a b : List ℤ) (f : PointFrame) (fs tail : List PointFrame) →
    frames_of P (joined (length a) tail (record { frames = f ∷ fs })) (a ++ b)
    ≡ over (frames_of P (record { frames = f ∷ fs }) b) (map (waiting_of P (a ++ b)) tail)
unfolding frames_of stack_of joined over top_of frame_regs shift_frame
frames_joined P a b f fs tail =
    ap₂ (λ x ws. record { top = record { function = f.function; label = f.label; regs = x }; waiting = ws }) (operands_shift a b f.map)
    (map-append (waiting_of P (a ++ b)) (map (shift_frame (length a)) fs) tail ∙ ap (λ z. z ++ map (waiting_of P (a ++ b)) tail) (waiting_shift P a b fs))

-- ---- effects

-- the effect that inlining makes of the callee's: a return goes on in the caller, with the value in the call's destination
unfoldable pub inlined_plain : List ℤ → List ℤ → List ℤ → ℕ → Reg → Label → Effect → Effect
inlined_plain a b m k dest after (On next b' m' printed) = On (shift_label k next) (a ++ b') m' printed
inlined_plain a b m k dest after (Calls d f args next) = Calls (shift_reg (length a) d) f args (shift_label k next)
inlined_plain a b m k dest after (Returns x) = On after (slice_set (a ++ b) dest.0 x) m []
inlined_plain a b m k dest after (Faults e) = Faults e

unfoldable pub inlined_effect : List ℤ → List ℤ → List ℤ → ℕ → List PointFrame → Reg → Label → VersionEffect → VersionEffect
inlined_effect a b m k tail dest after (Plain e) = Plain (inlined_plain a b m k dest after e)
inlined_effect a b m k tail dest after (Guarded holds back target next) = Guarded holds back (joined (length a) tail target) (shift_label k next)

value_inlined : (a b m : List ℤ) (k : ℕ) (dest : Reg) (after : Label) (o : Option ℤ) (fault : Fault) (go go' : ℤ → Effect) →
    ((v : ℤ) → go' v ≡ inlined_plain a b m k dest after (go v)) → with_value o fault go' ≡ inlined_plain a b m k dest after (with_value o fault go)
unfolding with_value inlined_plain
value_inlined a b m k dest after None fault go go' h = refl
value_inlined a b m k dest after (Some v) fault go go' h = h v

pub effect-inlined : (a b m : List ℤ) (k : ℕ) (tail : List PointFrame) (dest : Reg) (after : Label) (i : VInstr) →
    version_effect (inlined_instr (length a) k tail dest after i) (a ++ b) m ≡ inlined_effect a b m k tail dest after (version_effect i b m)
unfolding version_effect inlined_instr inlined_effect inlined_plain op_effect load_effect store_effect moved shift_reg
effect-inlined a b m k tail dest after (Nop n) = refl
effect-inlined a b m k tail dest after (Op d e n) =
    ap Plain (ap (λ o. with_value o ZeroDivisor (λ v. On (shift_label k n) (slice_set (a ++ b) (length a + d.0) v) m []))
    (operands_value (shift_operand (length a)) (a ++ b) b (operand_shift a b) e)
    ∙ value_inlined a b m k dest after (expr_value b e) ZeroDivisor (λ v. On n (slice_set b d.0 v) m [])
    (λ v. On (shift_label k n) (slice_set (a ++ b) (length a + d.0) v) m []) (λ v. ap (λ r. On (shift_label k n) r m []) (set_shift a b d.0 v)))
effect-inlined a b m k tail dest after (Move ps n) = ap (λ r. Plain (On (shift_label k n) r m [])) (moved_shift a b b ps)
effect-inlined a b m k tail dest after (Cond t x y) =
    ap (λ v. Plain (On (branch v (shift_label k x) (shift_label k y)) (a ++ b) m [])) (operand_shift a b t)
    ∙ ap (λ l. Plain (On l (a ++ b) m [])) (branch-relabel (shift_label k) (operand_value b t) x y)
effect-inlined a b m k tail dest after (Call d f args n) = ap (λ xs. Plain (Calls (shift_reg (length a) d) f xs (shift_label k n))) (operands_shift a b args)
effect-inlined a b m k tail dest after (Return v) = ap (λ x. Plain (On after (slice_set (a ++ b) dest.0 x) m [])) (operand_shift a b v)
effect-inlined a b m k tail dest after (Print v n) = ap (λ x. Plain (On (shift_label k n) (a ++ b) m (x ∷ []))) (operand_shift a b v)
effect-inlined a b m k tail dest after (Load d x n) =
    let address = operand_value b x in
    ap (λ y. Plain (load_effect (shift_reg (length a) d) y (shift_label k n) (a ++ b) m)) (operand_shift a b x)
    ∙ ap Plain (value_inlined a b m k dest after (cell m address) (BadAddress address) (λ v. On n (slice_set b d.0 v) m [])
    (λ v. On (shift_label k n) (slice_set (a ++ b) (length a + d.0) v) m []) (λ v. ap (λ r. On (shift_label k n) r m []) (set_shift a b d.0 v)))
effect-inlined a b m k tail dest after (Store x v n) =
    let address = operand_value b x in
    let value = operand_value b v in
    ap₂ (λ y z. Plain (store_effect y z (shift_label k n) (a ++ b) m)) (operand_shift a b x) (operand_shift a b v)
    ∙ ap Plain (value_inlined a b m k dest after (cell m address) (BadAddress address) (λ w. On n b (with_cell m address value) [])
    (λ w. On (shift_label k n) (a ++ b) (with_cell m address value) []) (λ w. refl))
effect-inlined a b m k tail dest after (Fail f l) = refl
effect-inlined a b m k tail dest after (Assume gs back t n) = ap (λ h. guarded h) (guards_shift a b gs)
  where
    guarded : Bool → VersionEffect
    guarded h = Guarded h back (joined (length a) tail t) (shift_label k n)
effect-inlined a b m k tail dest after (Anchor back t n) = refl
