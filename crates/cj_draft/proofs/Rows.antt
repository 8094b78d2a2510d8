-- Rows of Assumes and Anchors after an insertion: only those that pass the fresh label can grow.
use Rattle.std.proofs.Common.{◌≡◌, ℕ, zero, suc, ◌⊎◌, Option, Some, None, refl, sym, ap, ◌∙◌, subst, inl, inr, ⊎_elim}
use Rattle.std.specs.Option.{option_map}
use Rattle.std.proofs.lemmas.Option.{same_Some, none-some}
use Rattle.cj_ir.specs.declared.language.Label.{Label}
use Rattle.cj_draft.specs.declared.instructions.VInstr.{VInstr}
use Rattle.cj_draft.specs.declared.instructions.VInstr.TheVariants.{Nop, Op, Move, Cond, Call, Return, Print, Load, Store, Fail, Assume, Anchor}
use Rattle.cj_draft.specs.declared.code.Back.{Back}
use Rattle.cj_draft.specs.declared.code.Place.{Place}
use Rattle.cj_draft.specs.declared.code.Code.{Code}
use Rattle.cj_draft.specs.Arrives.{place_at}
use Rattle.cj_draft.specs.Sound.{guard_next, RowWithin}
use Rattle.cj_draft.specs.Relabel.{relabel}
use Rattle.cj_draft.proofs.Insert.{IsKept, IsInserted}

-- within n labels the row from x passes a
abbrev pub RowPasses : Code → ℕ → Label → Label → Type 0
RowPasses code zero x a = x ≡ a
RowPasses code (suc n) x a =
    (x ≡ a) ⊎ ((p : Place) × (next : Label) × (place_at code x ≡ Some p) × (guard_next p.instr ≡ Some next) × RowPasses code n next a)

pub guard_next-relabel : (r : Label → Label) (i : VInstr) → guard_next (relabel r i) ≡ option_map r (guard_next i)
unfolding guard_next relabel
guard_next-relabel r (Nop n) = refl
guard_next-relabel r (Op d e n) = refl
guard_next-relabel r (Move ps n) = refl
guard_next-relabel r (Cond t x y) = refl
guard_next-relabel r (Call d f args n) = refl
guard_next-relabel r (Return v) = refl
guard_next-relabel r (Print v n) = refl
guard_next-relabel r (Load d x n) = refl
guard_next-relabel r (Store x y n) = refl
guard_next-relabel r (Fail f l) = refl
guard_next-relabel r (Assume g b t n) = refl
guard_next-relabel r (Anchor b t n) = refl

module _ (code code' : Code) (l a : Label) (r : Label → Label) (New : Label → Back → Type 0) (ins : IsInserted code code' l a r New) where
  Either : ℕ → Label → Type 0
  Either n x = RowWithin code' n x ⊎ RowPasses code' n x a

  to_a : (n : ℕ) (x : Label) → x ≡ a → RowPasses code' n x a
  to_a zero x e = e
  to_a (suc n) x e = inl e

  -- no label there
  row_none : (n : ℕ) (x : Label) → place_at code' x ≡ None → RowWithin code' n x
  row_none zero x e = λ p at. absurd (none-some p (sym e ∙ at))
  row_none (suc n) x e = λ p next at g. absurd (none-some p (sym e ∙ at))

  -- a label with no guard
  row_plain : (n : ℕ) (x : Label) (p' : Place) → place_at code' x ≡ Some p' → guard_next p'.instr ≡ None → RowWithin code' n x
  row_plain zero x p' at g = λ p at'. ap (λ z. guard_next z.instr) (same_Some p p' (sym at' ∙ at)) ∙ g
  row_plain (suc n) x p' at g = λ p next at' g'. absurd (none-some next (sym (ap (λ z. guard_next z.instr) (same_Some p p' (sym at' ∙ at)) ∙ g) ∙ g'))

  kept_next : (x : Label) (p p' : Place) → IsKept r (New x) p p' → guard_next p'.instr ≡ option_map r (guard_next p.instr)
  kept_next x p p' k = ap guard_next k.instr ∙ guard_next-relabel r p.instr

  rows_or : (n : ℕ) (x : Label) → RowWithin code n x → Either n x
  unfolding Either
  rows_or zero x row = by_place (place_at code' x) refl
    where
      by_place : (o : Option Place) → place_at code' x ≡ o → RowWithin code' zero x ⊎ RowPasses code' zero x a
      by_place None e = inl (row_none zero x e)
      by_place (Some p') e = ⊎_elim (λ h. inr h) (λ k. inl (row_plain zero x p' e (kept_next x k.0 p' k.2 ∙ ap (option_map r) (row k.0 k.1)))) (ins.back x p' e)
  rows_or (suc n) x row = by_place (λ y w. rows_or n y w) (place_at code' x) refl
    where
      by_next : ((y : Label) → RowWithin code n y → RowWithin code' n y ⊎ RowPasses code' n y a) → (p p' : Place) → place_at code x ≡ Some p →
          place_at code' x ≡ Some p' → IsKept r (New x) p p' → (o : Option Label) → guard_next p.instr ≡ o →
          RowWithin code' (suc n) x ⊎ RowPasses code' (suc n) x a
      by_next ih p p' at at' k None g = inl (row_plain (suc n) x p' at' (kept_next x p p' k ∙ ap (option_map r) g))
      by_next ih p p' at at' k (Some next) g =
          let g' : guard_next p'.instr ≡ Some (r next) = kept_next x p p' k ∙ ap (option_map r) g in
          ⊎_elim
          (λ h. inr (inr (p', r next, at', g', to_a n (r next) h.1)))
          (λ h. ⊎_elim
          (λ w. inl (λ q y atq gq.
          let e : r next ≡ y = same_Some (r next) y (sym g' ∙ ap (λ z. guard_next z.instr) (same_Some p' q (sym at' ∙ atq)) ∙ gq) in
          subst (λ z. RowWithin code' n z) (sym h ∙ e) w))
          (λ t. inr (inr (p', r next, at', g', subst (λ z. RowPasses code' n z a) (sym h) t)))
          (ih next (row p next at g)))
          (ins.leads next)

      by_place : ((y : Label) → RowWithin code n y → RowWithin code' n y ⊎ RowPasses code' n y a) → (o : Option Place) → place_at code' x ≡ o →
          RowWithin code' (suc n) x ⊎ RowPasses code' (suc n) x a
      by_place ih None e = inl (row_none (suc n) x e)
      by_place ih (Some p') e = ⊎_elim (λ h. inr (inl h)) (λ k. by_next ih k.0 p' k.1 e k.2 (guard_next k.0.instr) refl) (ins.back x p' e)

  -- where every row that passes the fresh label is within 8, every row is
  pub rows_inserted : ((x : Label) → RowWithin code 8 x) → ((x : Label) → RowPasses code' 8 x a → RowWithin code' 8 x) → (x : Label) → RowWithin code' 8 x
  unfolding Either
  rows_inserted rows through x = ⊎_elim (λ w. w) (λ t. through x t) (rows_or 8 x (rows x))
