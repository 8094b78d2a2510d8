-- What holds where no condition is against inlining.
use Rattle.std.proofs.Common.{◌≡◌, subst, ◌<◌, ℕ, ◌+◌, ◌≤◌, Bool, true, false, nat_eq, nat_lt, length, List, Option, Some, None, refl, sym, ap, ◌∙◌}
use Rattle.std.proofs.lemmas.Option.{same_Some, none-some, slice_get_within}
use Rattle.std.proofs.lemmas.Bool.{eqb-true, ltb-false}
use Rattle.cj_ir.specs.declared.language.FunId.{FunId}
use Rattle.cj_ir.specs.declared.language.Program.{Program}
use Rattle.cj_draft.specs.WellNamed.{IsVInstrFine, IsPlaceFine}
use Rattle.cj_ir.specs.declared.language.Label.{Label}
use Rattle.cj_ir.specs.declared.language.Reg.{Reg}
use Rattle.cj_ir.specs.declared.language.Operand.{Operand}
use Rattle.cj_draft.specs.declared.facts.Facts.{Facts}
use Rattle.cj_draft.specs.declared.facts.Facts.TheVariants.{Unreached, Known}
use Rattle.cj_draft.specs.declared.instructions.VInstr.{VInstr}
use Rattle.cj_draft.specs.declared.instructions.VInstr.TheVariants.{Nop, Op, Move, Cond, Call, Return, Print, Load, Store, Fail, Assume, Anchor}
use Rattle.cj_draft.specs.declared.code.Place.{Place}
use Rattle.cj_draft.specs.declared.code.Code.{Code}
use Rattle.cj_draft.specs.declared.passes.Room.TheVariants.{Registers, Labels}
use Rattle.cj_draft.specs.declared.passes.Skipped.{Skipped}
use Rattle.cj_draft.specs.declared.passes.Skipped.TheVariants.{NoPlace, NotCall, Other, Deep}
use Rattle.cj_draft.specs.Arrives.{place_at}
use Rattle.cj_rows.proofs.Room.{not_full}
use Rattle.cj_inline.specs.Inlining.{most_frames, called_by, if_reached, called, if_other, if_deep, full_offence, room_offence, callee_offence, offence_by}
use Rattle.cj_inline.specs.Inlining.{offence_at, inline_offence}

-- the call that the callee stands for, and the room for it
pub record CanInline (code : Code) (c : Label) (callee : Code) : Type 0 where
  pub place : Place
  pub at : place_at code c ≡ Some place
  pub dest : Reg
  pub args : List Operand
  pub next : Label
  pub instr : place.instr ≡ Call dest callee.function args next
  pub frames : length place.point.frames + most_frames callee.places ≤ 4
  pub regs : code.regs + callee.regs ≤ 128
  pub labels : length code.places + length callee.places ≤ 512

abbrev IsCallOf : VInstr → FunId → Type 0
IsCallOf instr f = (dest : Reg) × (args : List Operand) × (next : Label) × (instr ≡ Call dest f args next)

call_of : (i : VInstr) (f : FunId) → called_by i ≡ Some f → IsCallOf i f
unfolding called_by
call_of (Call d g args n) f e = (d, args, n, ap (λ h. Call d h args n) (same_Some g f e))
call_of (Nop x) f e = absurd (none-some f e)
call_of (Op d y x) f e = absurd (none-some f e)
call_of (Move ps x) f e = absurd (none-some f e)
call_of (Cond t x z) f e = absurd (none-some f e)
call_of (Return v) f e = absurd (none-some f e)
call_of (Print v x) f e = absurd (none-some f e)
call_of (Load d a x) f e = absurd (none-some f e)
call_of (Store a v x) f e = absurd (none-some f e)
call_of (Fail g l) f e = absurd (none-some f e)
call_of (Assume g b t x) f e = absurd (none-some f e)
call_of (Anchor b t x) f e = absurd (none-some f e)

reached_call : (facts : Facts) (o : Option FunId) (f : FunId) → if_reached facts o ≡ Some f → o ≡ Some f
unfolding if_reached
reached_call Unreached o f e = absurd (none-some f e)
reached_call (Known facts) o f e = e

not_other : (b : Bool) (f : FunId) (others : Option Skipped) → if_other b f others ≡ None → (b ≡ true) × (others ≡ None)
unfolding if_other
not_other true f others e = (refl, e)
not_other false f others e = absurd (none-some (Other f) (sym e))

not_deep : (b : Bool) (frames : ℕ) (others : Option Skipped) → if_deep b frames others ≡ None → (b ≡ false) × (others ≡ None)
unfolding if_deep
not_deep true frames others e = absurd (none-some (Deep frames) (sym e))
not_deep false frames others e = (refl, e)

same_function : (f g : FunId) → nat_eq f.0 g.0 ≡ true → f ≡ g
same_function f g e = ap fun (eqb-true f.0 g.0 e)
  where
    fun : ℕ → FunId
    fun n = record { 0 = n }

pub can_inline : (code : Code) (c : Label) (callee : Code) → inline_offence code c callee ≡ None → CanInline code c callee
unfolding inline_offence offence_at offence_by called callee_offence room_offence full_offence
can_inline code c callee none = by_place (place_at code c) refl none
  where
    by_call : (p : Place) (f : FunId) → place_at code c ≡ Some p → called p ≡ Some f → callee_offence code callee p f ≡ None → CanInline code c callee
    by_call p f at is none =
        let call = call_of p.instr f (reached_call p.facts (called_by p.instr) f is) in
        let other = not_other (nat_eq callee.function.0 f.0) f _ none in
        let deep = not_deep (nat_lt 4 (length p.point.frames + most_frames callee.places)) _ _ other.1 in
        let regs = not_full (nat_lt 128 (code.regs + callee.regs)) Registers _ _ deep.1 in
        let labels = not_full (nat_lt 512 (length code.places + length callee.places)) Labels _ _ regs.1 in
        record {
          place = p;
          at = at;
          dest = call.0;
          args = call.1;
          next = call.2;
          instr = call.3 ∙ ap (λ g. Call call.0 g call.1 call.2) (sym (same_function callee.function f other.0));
          frames = ltb-false 4 (length p.point.frames + most_frames callee.places) deep.0;
          regs = ltb-false 128 (code.regs + callee.regs) regs.0;
          labels = ltb-false 512 (length code.places + length callee.places) labels.0;
        }

    by_called : (p : Place) (o : Option FunId) → place_at code c ≡ Some p → called p ≡ o → offence_by code c callee p o ≡ None → CanInline code c callee
    by_called p None at is none = absurd (none-some (NotCall c) (sym none))
    by_called p (Some f) at is none = by_call p f at is none

    by_place : (o : Option Place) → place_at code c ≡ o → offence_at code c callee o ≡ None → CanInline code c callee
    by_place None at none = absurd (none-some (NoPlace c) (sym none))
    by_place (Some p) at none = by_called p (called p) at refl none

-- the function that a place calls exists
pub called_exists : (P : Program) (regs labels : ℕ) (p : Place) (f : FunId) → IsPlaceFine P regs labels p → called p ≡ Some f → f.0 < length P.functions
unfolding called
called_exists P regs labels p f fine is =
    let call = call_of p.instr f (reached_call p.facts (called_by p.instr) f is) in
    let takes = (subst (IsVInstrFine P regs labels) call.3 fine.instr).1 in
    slice_get_within P.functions f.0 takes.0 takes.1
