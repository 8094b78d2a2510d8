-- Rows of Assumes and Anchors do not grow where a callee stands in the place of a call: a move enters it, and a move leaves
-- it.
use Rattle.std.proofs.Common.{◌≡◌, ℕ, zero, suc, ◌<◌, ◌⊎◌, length, Option, Some, None, refl, sym, ap, ◌∙◌, subst, ⊎_elim}
use Rattle.std.specs.Option.{option_map}
use Rattle.cj_ir.specs.declared.language.Label.{Label}
use Rattle.cj_ir.specs.declared.language.Reg.{Reg}
use Rattle.cj_draft.specs.declared.points.PointFrame.{PointFrame}
use Rattle.std.specs.Prelude.{List}
use Rattle.cj_draft.specs.declared.instructions.VInstr.{VInstr}
use Rattle.cj_draft.specs.declared.instructions.VInstr.TheVariants.{Nop, Op, Move, Cond, Call, Return, Print, Load, Store, Fail, Assume, Anchor}
use Rattle.cj_draft.specs.declared.code.Code.{Code}
use Rattle.cj_draft.specs.Sound.{guard_next, RowWithin}
use Rattle.cj_draft.specs.Inlining.{shift_label, inlined_instr}
use Rattle.cj_rows.specs.Rows.{guard_at}
use Rattle.cj_rows.proofs.RowLemmas.{no_row, one_row, row_next, row_ends}

pub guard_next-inlined : (n k : ℕ) (tail : List PointFrame) (dest : Reg) (after : Label) (i : VInstr) → guard_next (inlined_instr n k tail dest after i)
    ≡ option_map (shift_label k) (guard_next i)
unfolding guard_next inlined_instr
guard_next-inlined n k tail dest after (Nop x) = refl
guard_next-inlined n k tail dest after (Op d e x) = refl
guard_next-inlined n k tail dest after (Move ps x) = refl
guard_next-inlined n k tail dest after (Cond t x y) = refl
guard_next-inlined n k tail dest after (Call d f args x) = refl
guard_next-inlined n k tail dest after (Return v) = refl
guard_next-inlined n k tail dest after (Print v x) = refl
guard_next-inlined n k tail dest after (Load d a x) = refl
guard_next-inlined n k tail dest after (Store a v x) = refl
guard_next-inlined n k tail dest after (Fail f l) = refl
guard_next-inlined n k tail dest after (Assume g b t x) = refl
guard_next-inlined n k tail dest after (Anchor b t x) = refl

-- The guards of the new code: those of the code, and those of the callee at shifted labels.
pub record HasGuardsOfBoth (code callee code' : Code) : Type 0 where
  pub old : (x : Label) → x.0 < length code.places → guard_at code' x ≡ guard_at code x
  pub new : (x : Label) → guard_at code' (shift_label (length code.places) x) ≡ option_map (shift_label (length code.places)) (guard_at callee x)
  -- each edge of the code goes to a label of it
  pub edges : (x y : Label) → guard_at code x ≡ Some y → y.0 < length code.places
  -- and there is no other label
  pub all : (x : Label) → (x.0 < length code.places) ⊎ ((y : Label) × (x ≡ shift_label (length code.places) y))

module _ (code callee code' : Code) (g : HasGuardsOfBoth code callee code') where
  row_old : (n : ℕ) (x : Label) → x.0 < length code.places → RowWithin code n x → RowWithin code' n x
  row_old zero x within row = by_guard (guard_at code x) refl
    where
      by_guard : (o : Option Label) → guard_at code x ≡ o → RowWithin code' zero x
      by_guard None e = no_row code' zero x (g.old x within ∙ e)
      by_guard (Some y) e = absurd (row_ends code x y e row)
  row_old (suc n) x within row = by_guard (λ y h r. row_old n y h r) (guard_at code x) refl
    where
      by_guard : ((y : Label) → y.0 < length code.places → RowWithin code n y → RowWithin code' n y) → (o : Option Label) → guard_at code x ≡ o →
          RowWithin code' (suc n) x
      by_guard ih None e = no_row code' (suc n) x (g.old x within ∙ e)
      by_guard ih (Some y) e = one_row code' n x y (g.old x within ∙ e) (ih y (g.edges x y e) (row_next code n x y e row))

  row_new : (n : ℕ) (x : Label) → RowWithin callee n x → RowWithin code' n (shift_label (length code.places) x)
  row_new zero x row = by_guard (guard_at callee x) refl
    where
      by_guard : (o : Option Label) → guard_at callee x ≡ o → RowWithin code' zero (shift_label (length code.places) x)
      by_guard None e = no_row code' zero (shift_label (length code.places) x) (g.new x ∙ ap (option_map (shift_label (length code.places))) e)
      by_guard (Some y) e = absurd (row_ends callee x y e row)
  row_new (suc n) x row = by_guard (λ y r. row_new n y r) (guard_at callee x) refl
    where
      by_guard : ((y : Label) → RowWithin callee n y → RowWithin code' n (shift_label (length code.places) y)) → (o : Option Label) → guard_at callee x ≡ o →
          RowWithin code' (suc n) (shift_label (length code.places) x)
      by_guard ih None e = no_row code' (suc n) (shift_label (length code.places) x) (g.new x ∙ ap (option_map (shift_label (length code.places))) e)
      by_guard ih (Some y) e =
          one_row code' n (shift_label (length code.places) x) (shift_label (length code.places) y)
          (g.new x ∙ ap (option_map (shift_label (length code.places))) e) (ih y (row_next callee n x y e row))

  pub rows_inlined : (n : ℕ) → ((x : Label) → RowWithin code n x) → ((x : Label) → RowWithin callee n x) → (x : Label) → RowWithin code' n x
  rows_inlined n rows rows_callee x = ⊎_elim
      (λ within. row_old n x within (rows x))
      (λ y. subst (RowWithin code' n) (sym y.1) (row_new n y.0 (rows_callee y.0)))
      (g.all x)
