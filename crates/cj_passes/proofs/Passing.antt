-- Where edges go past Anchors.
use Rattle.std.proofs.Common.{◌≡◌, ℕ, zero, suc, ◌<◌, ◌+◌, ◌-◌, length, Option, Some, None, refl, sym, ap, ◌∙◌, subst, arith}
use Rattle.std.proofs.lemmas.Option.{same_Some, none-some}
use Rattle.std.specs.Prelude.{Contains}
use Rattle.cj_ir.specs.declared.language.Label.{Label}
use Rattle.cj_draft.specs.declared.points.Point.{Point}
use Rattle.cj_draft.specs.declared.instructions.VInstr.{VInstr}
use Rattle.cj_draft.specs.declared.instructions.VInstr.TheVariants.{Nop, Op, Move, Cond, Call, Return, Print, Load, Store, Fail, Assume, Anchor}
use Rattle.cj_draft.specs.declared.code.Place.{Place}
use Rattle.cj_draft.specs.declared.code.Code.{Code}
use Rattle.cj_draft.specs.Arrives.{place_at}
use Rattle.cj_draft.specs.Sound.{guard_next, RowWithin}
use Rattle.cj_draft.specs.Edges.{successors}
use Rattle.cj_rows.proofs.RowLemmas.{row_more}
use Rattle.cj_rows.specs.Rows.{anchor_next, anchor_in, anchor_at}
use Rattle.cj_passes.specs.Lowering.{or_on, past_anchors, passed}
use Rattle.cj_rows.specs.Edges.{IsClosed}
use Rattle.cj_rows.proofs.Closed.{next_within}

-- an Anchor that leads to a label
pub record IsAnchorTo (next : Label) (instr : VInstr) : Type 0 where
  pub back : ℕ
  pub target : Point
  pub is : instr ≡ Anchor back target next

anchor_to : (instr : VInstr) (next : Label) → anchor_next instr ≡ Some next → IsAnchorTo next instr
unfolding anchor_next
anchor_to (Anchor b t x) next e = record { back = b; target = t; is = ap (Anchor b t) (same_Some x next e) }
anchor_to (Nop x) next e = absurd (none-some next e)
anchor_to (Op d x n) next e = absurd (none-some next e)
anchor_to (Move ps n) next e = absurd (none-some next e)
anchor_to (Cond t x y) next e = absurd (none-some next e)
anchor_to (Call d f args n) next e = absurd (none-some next e)
anchor_to (Return v) next e = absurd (none-some next e)
anchor_to (Print v n) next e = absurd (none-some next e)
anchor_to (Load d x n) next e = absurd (none-some next e)
anchor_to (Store x y n) next e = absurd (none-some next e)
anchor_to (Fail f l) next e = absurd (none-some next e)
anchor_to (Assume g b t n) next e = absurd (none-some next e)

-- the place of an Anchor that leads to a label
pub record HasAnchor (code : Code) (label next : Label) : Type 0 where
  pub place : Place
  pub at : place_at code label ≡ Some place
  pub anchor : IsAnchorTo next place.instr

pub has_anchor : (code : Code) (label next : Label) → anchor_at code label ≡ Some next → HasAnchor code label next
unfolding anchor_at anchor_in
has_anchor code label next e = by_place (place_at code label) refl e
  where
    by_place : (o : Option Place) → place_at code label ≡ o → anchor_in o ≡ Some next → HasAnchor code label next
    by_place None at e = absurd (none-some next e)
    by_place (Some p) at e = record { place = p; at = at; anchor = anchor_to p.instr next e }

-- a place is what the label's Anchor is judged by
pub anchor-at_place : (code : Code) (label : Label) (p : Place) → place_at code label ≡ Some p → anchor_at code label ≡ anchor_next p.instr
unfolding anchor_at anchor_in
anchor-at_place code label p at = ap anchor_in at

pub guard-of_anchor : (instr : VInstr) (next : Label) → IsAnchorTo next instr → guard_next instr ≡ Some next
unfolding guard_next
guard-of_anchor instr next a = ap guard_next a.is

-- ---- steps

pub past_none : (code : Code) (n : ℕ) (x : Label) → anchor_at code x ≡ None → past_anchors code n x ≡ x
unfolding past_anchors or_on
past_none code zero x e = refl
past_none code (suc n) x e = ap (λ o. or_on o x (λ next. past_anchors code n next)) e

pub past_some : (code : Code) (n : ℕ) (x next : Label) → anchor_at code x ≡ Some next → past_anchors code (suc n) x ≡ past_anchors code n next
unfolding past_anchors or_on
past_some code n x next e = ap (λ o. or_on o x (λ y. past_anchors code n y)) e

-- ---- rows

row_after : (code : Code) (n : ℕ) (x next : Label) → anchor_at code x ≡ Some next → RowWithin code (suc n) x → RowWithin code n next
row_after code n x next e row =
    let h = has_anchor code x next e in
    row h.place next h.at (guard-of_anchor h.place.instr next h.anchor)

row_zero : (code : Code) (x next : Label) → anchor_at code x ≡ Some next → RowWithin code zero x → ⊥
row_zero code x next e row =
    let h = has_anchor code x next e in
    none-some next (sym (row h.place h.at) ∙ guard-of_anchor h.place.instr next h.anchor)

-- past as many Anchors as a row has at most there is none
pub past_is_none : (code : Code) (n : ℕ) (x : Label) → RowWithin code n x → anchor_at code (past_anchors code n x) ≡ None
unfolding past_anchors
past_is_none code zero x row = by_anchor (anchor_at code x) refl
  where
    by_anchor : (o : Option Label) → anchor_at code x ≡ o → anchor_at code x ≡ None
    by_anchor None e = e
    by_anchor (Some next) e = absurd (row_zero code x next e row)
past_is_none code (suc n) x row = by_anchor (λ y r. past_is_none code n y r) (anchor_at code x) refl
  where
    by_anchor : ((y : Label) → RowWithin code n y → anchor_at code (past_anchors code n y) ≡ None) → (o : Option Label) → anchor_at code x ≡ o →
        anchor_at code (past_anchors code (suc n) x) ≡ None
    by_anchor ih None e = ap (anchor_at code) (past_none code (suc n) x e) ∙ e
    by_anchor ih (Some next) e = ap (anchor_at code) (past_some code n x next e) ∙ ih next (row_after code n x next e row)

-- past one more there is the same
past_one_more : (code : Code) (n : ℕ) (x : Label) → RowWithin code n x → past_anchors code (suc n) x ≡ past_anchors code n x
past_one_more code zero x row = by_anchor (anchor_at code x) refl
  where
    by_anchor : (o : Option Label) → anchor_at code x ≡ o → past_anchors code (suc zero) x ≡ past_anchors code zero x
    by_anchor None e = past_none code (suc zero) x e ∙ sym (past_none code zero x e)
    by_anchor (Some next) e = absurd (row_zero code x next e row)
past_one_more code (suc n) x row = by_anchor (λ y r. past_one_more code n y r) (anchor_at code x) refl
  where
    by_anchor : ((y : Label) → RowWithin code n y → past_anchors code (suc n) y ≡ past_anchors code n y) → (o : Option Label) → anchor_at code x ≡ o →
        past_anchors code (suc (suc n)) x ≡ past_anchors code (suc n) x
    by_anchor ih None e = past_none code (suc (suc n)) x e ∙ sym (past_none code (suc n) x e)
    by_anchor ih (Some next) e = past_some code (suc n) x next e ∙ ih next (row_after code n x next e row) ∙ sym (past_some code n x next e)

-- a row does not grow past Anchors
pub row_past : (code : Code) (n k : ℕ) (x : Label) → RowWithin code n x → RowWithin code n (past_anchors code k x)
unfolding past_anchors
row_past code n zero x row = row
row_past code n (suc k) x row = by_anchor (λ m y r. row_past code m k y r) n row (anchor_at code x) refl
  where
    by_anchor : ((m : ℕ) (y : Label) → RowWithin code m y → RowWithin code m (past_anchors code k y)) → (m : ℕ) → RowWithin code m x → (o : Option Label) →
        anchor_at code x ≡ o → RowWithin code m (past_anchors code (suc k) x)
    by_anchor ih m r None e = subst (RowWithin code m) (sym (past_none code (suc k) x e)) r
    by_anchor ih zero r (Some next) e = absurd (row_zero code x next e r)
    by_anchor ih (suc m) r (Some next) e =
        subst (RowWithin code (suc m)) (sym (past_some code k x next e)) (ih (suc m) next (row_more code m next (row_after code m x next e r)))

-- ---- where edges go

pub passed_none : (code : Code) (x : Label) → anchor_at code x ≡ None → passed code x ≡ x
unfolding passed
passed_none code x e = past_none code 8 x e

pub passed_next : (code : Code) (x next : Label) → RowWithin code 8 x → anchor_at code x ≡ Some next → passed code x ≡ passed code next
unfolding passed
passed_next code x next row e = past_some code 7 x next e ∙ sym (past_one_more code 7 next (row_after code 7 x next e row))

pub passed_is_none : (code : Code) (x : Label) → RowWithin code 8 x → anchor_at code (passed code x) ≡ None
unfolding passed
passed_is_none code x row = past_is_none code 8 x row

pub row_passed : (code : Code) (n : ℕ) (x : Label) → RowWithin code n x → RowWithin code n (passed code x)
unfolding passed
row_passed code n x row = row_past code n 8 x row

-- ---- within the code

next_of_anchor : (instr : VInstr) (next : Label) → IsAnchorTo next instr → Contains (successors instr) next
unfolding successors
next_of_anchor instr next a = subst (λ i. Contains (successors i) next) (sym a.is) (0, omega arith, refl)

past_within : (code : Code) (n : ℕ) (x : Label) → IsClosed code → x.0 < length code.places → (past_anchors code n x).0 < length code.places
unfolding past_anchors
past_within code zero x closed h = h
past_within code (suc n) x closed h = by_anchor (λ y w. past_within code n y closed w) (anchor_at code x) refl
  where
    by_anchor : ((y : Label) → y.0 < length code.places → (past_anchors code n y).0 < length code.places) → (o : Option Label) → anchor_at code x ≡ o →
        (past_anchors code (suc n) x).0 < length code.places
    by_anchor ih None e = subst (λ y. y.0 < length code.places) (sym (past_none code (suc n) x e)) h
    by_anchor ih (Some next) e =
        let a = has_anchor code x next e in
        subst (λ y. y.0 < length code.places) (sym (past_some code n x next e))
        (ih next (next_within code x a.place next closed a.at (next_of_anchor a.place.instr next a.anchor)))

pub passed_within : (code : Code) (x : Label) → IsClosed code → x.0 < length code.places → (passed code x).0 < length code.places
unfolding passed
passed_within code x closed h = past_within code 8 x closed h

-- ---- step by step

pub past_step : (code : Code) (i : ℕ) (x next goal : Label) → i < 8 → anchor_at code x ≡ Some next → past_anchors code (8 - i) x ≡ goal →
    past_anchors code (8 - (i + 1)) next ≡ goal
past_step code i x next goal lt e so_far =
    let s : 8 - i ≡ suc (8 - (i + 1)) = omega arith in
    sym (ap (λ m. past_anchors code m x) s ∙ past_some code (8 - (i + 1)) x next e) ∙ so_far

pub past_zero : (code : Code) (n : ℕ) (x : Label) → n ≡ 0 → past_anchors code n x ≡ x
unfolding past_anchors
past_zero code n x e = ap (λ m. past_anchors code m x) e
