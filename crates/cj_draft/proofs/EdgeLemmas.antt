-- The labels to which instructions go on, and edges that are led elsewhere.
use Rattle.std.proofs.Common.{if◌then◌else◌, ◌≡◌, ◌≢◌, ℕ, ◌<◌, Bool, true, false, cond, [], ◌∷◌, Some, refl, ap, ◌∙◌, subst, eq-eqb}
use Rattle.std.specs.Prelude.{All, Contains, ℤ, pos}
use Rattle.std.specs.Ordering.{int_eq}
use Rattle.std.proofs.lemmas.Bool.{ne_eqb}
use Rattle.std.proofs.lemmas.Option.{same_Some, none-some}
use Rattle.std.proofs.lemmas.List.Elements.{All-cons, All-nil, All-contains}
use Rattle.cj_ir.specs.declared.language.Label.{Label}
use Rattle.cj_ir.specs.declared.language.Program.{Program}
use Rattle.cj_ir.proofs.Labels.{same_label}
use Rattle.cj_ir.proofs.Members.{contains-head, contains-tail}
use Rattle.cj_draft.specs.declared.instructions.VInstr.{VInstr}
use Rattle.cj_draft.specs.declared.instructions.VInstr.TheVariants.{Nop, Op, Move, Cond, Call, Return, Print, Load, Store, Fail, Assume, Anchor}
use Rattle.cj_draft.specs.Edges.{successors, led_to}
use Rattle.cj_draft.specs.Relabel.{relabel}
use Rattle.cj_draft.specs.Sound.{guard_next}
use Rattle.cj_draft.specs.WellNamed.{IsVInstrFine}
use Rattle.cj_base.specs.Machine.{branch}

-- ---- edges to one label

pub led-same : (label fresh x : Label) → x ≡ label → led_to label fresh x ≡ fresh
unfolding led_to
led-same label fresh x e = ap (λ b. cond b fresh x) (eq-eqb x.0 label.0 (ap (λ (y : Label). y.0) e))

pub led-other : (label fresh x : Label) → x ≢ label → led_to label fresh x ≡ x
unfolding led_to
led-other label fresh x ne = ap (λ b. cond b fresh x) (ne_eqb x.0 label.0 (λ e. ne (same_label x label e)))

-- ---- the labels of a branch

-- what holds of both holds of the one that is taken
pub branch_in : (R : Label → Type 0) (test : ℤ) (x y : Label) → R x → R y → R (branch test x y)
unfolding branch
branch_in R test x y rx ry = by_test (int_eq test (pos 0))
  where
    by_test : (is_zero : Bool) → R (if is_zero then y else x)
    by_test true = ry
    by_test false = rx

pub branch_among : (test : ℤ) (x y : Label) → Contains (x ∷ y ∷ []) (branch test x y)
branch_among test x y =
    branch_in (Contains (x ∷ y ∷ [])) test x y (contains-head x (y ∷ [])) (contains-tail x y (y ∷ []) (contains-head y []))

-- ---- the labels of an instruction

module _ (P : Program) (regs n : ℕ) where
  one : (x : Label) → x.0 < n → All (λ (y : Label). y.0 < n) (x ∷ [])
  one x h = All-cons (λ (y : Label). y.0 < n) x [] h (All-nil (λ (y : Label). y.0 < n))

  -- they are labels of the code
  pub successors_within : (i : VInstr) → IsVInstrFine P regs n i → All (λ (y : Label). y.0 < n) (successors i)
  unfolding successors
  successors_within (Nop x) h = one x h
  successors_within (Op d e x) h = one x h.2
  successors_within (Move ps x) h = one x h.1
  successors_within (Cond t x y) h = All-cons (λ (z : Label). z.0 < n) x (y ∷ []) h.1 (one y h.2)
  successors_within (Call d f args x) h = one x h.3
  successors_within (Return v) h = All-nil (λ (y : Label). y.0 < n)
  successors_within (Print v x) h = one x h.1
  successors_within (Load d a x) h = one x h.2
  successors_within (Store a v x) h = one x h.2
  successors_within (Fail f l) h = All-nil (λ (y : Label). y.0 < n)
  successors_within (Assume gs b t x) h = one x h.4
  successors_within (Anchor b t x) h = one x h.2

  pub successor_within : (i : VInstr) (y : Label) → IsVInstrFine P regs n i → Contains (successors i) y → y.0 < n
  successor_within i y h c = All-contains (λ (z : Label). z.0 < n) (successors i) y (successors_within i h) c

  -- edges that are led within a code of another length
  pub relabel_fine : (r : Label → Label) (n' : ℕ) (i : VInstr) → ((y : Label) → Contains (successors i) y → (r y).0 < n') → IsVInstrFine P regs n i →
      IsVInstrFine P regs n' (relabel r i)
  unfolding successors relabel
  relabel_fine r n' (Nop x) w h = w x (contains-head x [])
  relabel_fine r n' (Op d e x) w h = (h.0, h.1, w x (contains-head x []))
  relabel_fine r n' (Move ps x) w h = (h.0, w x (contains-head x []))
  relabel_fine r n' (Cond t x y) w h = (h.0, w x (contains-head x (y ∷ [])), w y (contains-tail x y (y ∷ []) (contains-head y [])))
  relabel_fine r n' (Call d f args x) w h = (h.0, h.1, h.2, w x (contains-head x []))
  relabel_fine r n' (Return v) w h = h
  relabel_fine r n' (Print v x) w h = (h.0, w x (contains-head x []))
  relabel_fine r n' (Load d a x) w h = (h.0, h.1, w x (contains-head x []))
  relabel_fine r n' (Store a v x) w h = (h.0, h.1, w x (contains-head x []))
  relabel_fine r n' (Fail f l) w h = h
  relabel_fine r n' (Assume gs b t x) w h = (h.0, h.1, h.2, h.3, w x (contains-head x []))
  relabel_fine r n' (Anchor b t x) w h = (h.0, h.1, w x (contains-head x []))

-- where no edge of an instruction changes, nor does it
pub relabel_none : (r : Label → Label) (i : VInstr) → ((y : Label) → Contains (successors i) y → r y ≡ y) → relabel r i ≡ i
unfolding successors relabel
relabel_none r (Nop x) h = ap Nop (h x (contains-head x []))
relabel_none r (Op d e x) h = ap (Op d e) (h x (contains-head x []))
relabel_none r (Move ps x) h = ap (Move ps) (h x (contains-head x []))
relabel_none r (Cond t x y) h =
    ap (λ (z : Label). Cond t z (r y)) (h x (contains-head x (y ∷ [])))
    ∙ ap (Cond t x) (h y (contains-tail x y (y ∷ []) (contains-head y [])))
relabel_none r (Call d f args x) h = ap (Call d f args) (h x (contains-head x []))
relabel_none r (Return v) h = refl
relabel_none r (Print v x) h = ap (Print v) (h x (contains-head x []))
relabel_none r (Load d a x) h = ap (Load d a) (h x (contains-head x []))
relabel_none r (Store a v x) h = ap (Store a v) (h x (contains-head x []))
relabel_none r (Fail f l) h = refl
relabel_none r (Assume gs b t x) h = ap (Assume gs b t) (h x (contains-head x []))
relabel_none r (Anchor b t x) h = ap (Anchor b t) (h x (contains-head x []))

-- ---- the next label of an Assume or Anchor

pub guard_successor : (i : VInstr) (next : Label) → guard_next i ≡ Some next → Contains (successors i) next
unfolding guard_next successors
guard_successor (Assume g b t x) y e = subst (Contains (x ∷ [])) (same_Some x y e) (contains-head x [])
guard_successor (Anchor b t x) y e = subst (Contains (x ∷ [])) (same_Some x y e) (contains-head x [])
guard_successor (Nop x) y e = absurd (none-some y e)
guard_successor (Op d v x) y e = absurd (none-some y e)
guard_successor (Move ps x) y e = absurd (none-some y e)
guard_successor (Cond t x z) y e = absurd (none-some y e)
guard_successor (Call d f args x) y e = absurd (none-some y e)
guard_successor (Return v) y e = absurd (none-some y e)
guard_successor (Print v x) y e = absurd (none-some y e)
guard_successor (Load d a x) y e = absurd (none-some y e)
guard_successor (Store a v x) y e = absurd (none-some y e)
guard_successor (Fail f l) y e = absurd (none-some y e)

pub guard_next_within : (P : Program) (regs n : ℕ) (i : VInstr) (y : Label) → IsVInstrFine P regs n i → guard_next i ≡ Some y → y.0 < n
guard_next_within P regs n i y h e = successor_within P regs n i y h (guard_successor i y e)
