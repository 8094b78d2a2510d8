-- The code by hand is sound.
use Rattle.std.proofs.Common.{◌≡◌, ℕ, zero, suc, ◌<◌, ◌≤◌, List, [], ◌∷◌, Option, Some, None, sym, ap, ◌∙◌, subst, arith, lit<, le_refl}
use Rattle.std.specs.Prelude.{◌≢◌, ℤ, All, pos, negsuc, IsSomeAnd, slice_get, slice_index_or}
use Rattle.std.proofs.lemmas.List.Elements.{All-nil, All-cons}
use Rattle.std.proofs.lemmas.Option.{none-some, same_Some}
use Rattle.cj_ir.specs.Program.{reg_count}
use Rattle.cj_ir.specs.Values.{IsOperandWithin}
use Rattle.cj_ir.specs.declared.language.FunId.{FunId}
use Rattle.cj_ir.specs.declared.language.Label.{Label}
use Rattle.cj_ir.specs.declared.language.Reg.{Reg}
use Rattle.cj_ir.specs.declared.language.Function.{Function}
use Rattle.cj_ir.specs.declared.language.Guard.TheVariants.{Is}
use Rattle.cj_ir.specs.declared.language.Program.{Program}
use Rattle.cj_ir.specs.declared.language.Operand.TheVariants as operand
use Rattle.cj_base.specs.Machine.{Faults, BadAddress}
use Rattle.cj_draft.specs.declared.facts.Fact.{Fact}
use Rattle.cj_draft.specs.declared.facts.Facts.TheVariants.{Unreached, Known}
use Rattle.cj_draft.specs.declared.instructions.Pair.{Pair}
use Rattle.cj_draft.specs.declared.instructions.VInstr.{VInstr}
use Rattle.cj_draft.specs.declared.instructions.VInstr.TheVariants.{Return, Assume}
use Rattle.cj_draft.specs.declared.code.Place.{Place}
use Rattle.cj_draft.specs.Effects.{Plain, version_effect}
use Rattle.cj_draft.specs.WellNamed.{AreFactsFine, IsGuardWithin, IsVInstrFine, IsPointFine, IsBackFine, IsPlaceFine}
use Rattle.cj_draft.specs.Arrives.{place_at}
use Rattle.cj_draft.specs.Sound.{guard_next, RowWithin, Sound}
use Rattle.cj_draft.specs.BaseBody.{base_code}
use Rattle.cj_test_passes.proofs.DeadSound.{regs_of_base, first_fine, dead_sound}
use Rattle.cj_test_passes.specs.ByHand.{reg, label, failing, six, swap, guards, place, behind, behind_code}

regs-differ : reg 0 ≡ reg 1 → ⊥
regs-differ e = let h : 1 ≤ 0 = subst (λ (r : Reg). r.0 ≤ 0) e (le_refl 0) in absurd (omega arith)

module _ (P : Program) (f : FunId) (context : List Fact) (first : Place) (sound : Sound P context f (base_code P f)) (at : place_at (base_code P f) (label 0)
    ≡ Some first) (two : reg_count P f ≡ 2)
    (fails : (regs m : List ℤ) → version_effect first.instr regs m ≡ Plain (Faults (BadAddress (negsuc 0)))) where
  same_regs : (base_code P f).regs ≡ 2
  same_regs = sym (regs_of_base P f) ∙ two

  point-fine : IsPointFine P 2 first.point
  point-fine = first_fine P f context first sound at fails 2 same_regs

  abbrev Fine : Place → Type 0
  Fine = IsPlaceFine P 2 5

  dead-fine : (instr : VInstr) → IsVInstrFine P 2 5 instr → Fine (place first.point Unreached instr)
  dead-fine instr instr-fine = record { instr = instr-fine; point = point-fine; facts = tt; backs = All-nil (IsBackFine P 2) }

  abbrev to-first : Pair
  to-first = record { dest = reg 0; value = operand.Reg (reg 1) }

  abbrev to-other : Pair
  to-other = record { dest = reg 1; value = operand.Reg (reg 0) }

  swap-fine : IsVInstrFine P 2 5 swap
  swap-fine =
      let Below = λ (pair : Pair). pair.dest.0 < 2 in
      let Reads = λ (pair : Pair). IsOperandWithin 2 pair.value in (
        record {
          dests = All-cons Below to-first (to-other ∷ []) (lit< tt) (All-cons Below to-other [] (lit< tt) (All-nil Below));
          differ = λ i j d lt below. differ i j d lt below;
          operands = All-cons Reads to-first (to-other ∷ []) (lit< tt) (All-cons Reads to-other [] (lit< tt) (All-nil Reads));
        },
        lit< tt,
      )
    where
      differ : (i j : ℕ) (d : Pair) → i < j → j < 2 →
          (slice_index_or (to-first ∷ to-other ∷ []) i d).dest ≢ (slice_index_or (to-first ∷ to-other ∷ []) j d).dest
      differ zero zero d lt below = absurd (omega arith)
      differ zero (suc zero) d lt below = λ e. regs-differ e
      differ zero (suc (suc j)) d lt below = absurd (omega arith)
      differ (suc i) zero d lt below = absurd (omega arith)
      differ (suc i) (suc j) d lt below = absurd (omega arith)

  guards-fine : IsVInstrFine P 2 5 (Assume guards 0 first.point (label 4))
  guards-fine =
      let W = IsGuardWithin 2 in (
        lit< tt,
        All-cons W (Is (reg 0) (pos 6)) (Is (reg 0) (pos 5) ∷ Is (reg 1) (pos 6) ∷ []) (lit< tt)
            (All-cons W (Is (reg 0) (pos 5)) (Is (reg 1) (pos 6) ∷ []) (lit< tt)
            (All-cons W (Is (reg 1) (pos 6)) [] (lit< tt) (All-nil W))),
        omega arith,
        point-fine,
        lit< tt,
      )

  abbrev rest : List Place
  rest =
      place first.point Unreached six
      ∷ place first.point Unreached swap
      ∷ place first.point Unreached (Assume guards 0 first.point (label 4))
      ∷ place first.point Unreached (Return (operand.Reg (reg 1)))
      ∷ []

  rest-fine : All Fine rest
  rest-fine =
      let last = place first.point Unreached (Return (operand.Reg (reg 1))) in
      let assume = place first.point Unreached (Assume guards 0 first.point (label 4)) in
      let swapped = place first.point Unreached swap in
      let known = place first.point Unreached six in
      All-cons Fine known (swapped ∷ assume ∷ last ∷ []) (dead-fine six (lit< tt, tt, lit< tt))
      (All-cons Fine swapped (assume ∷ last ∷ []) (dead-fine swap swap-fine)
      (All-cons Fine assume (last ∷ []) (dead-fine (Assume guards 0 first.point (label 4)) guards-fine)
      (All-cons Fine last [] (dead-fine (Return (operand.Reg (reg 1))) (lit< tt)) (All-nil Fine))))

  unreached : (k : ℕ) (p : Place) → slice_get rest k ≡ Some p → p.facts ≡ Unreached
  unreached zero p e = sym (ap (λ (q : Place). q.facts) (same_Some (place first.point Unreached six) p e))
  unreached (suc zero) p e = sym (ap (λ (q : Place). q.facts) (same_Some (place first.point Unreached swap) p e))
  unreached (suc (suc zero)) p e = sym (ap (λ (q : Place). q.facts) (same_Some (place first.point Unreached (Assume guards 0 first.point (label 4))) p e))
  unreached (suc (suc (suc zero))) p e = sym (ap (λ (q : Place). q.facts) (same_Some (place first.point Unreached (Return (operand.Reg (reg 1)))) p e))
  unreached (suc (suc (suc (suc k)))) p e = absurd (none-some p e)

  -- the label that a guard goes on to is 4
  guard-to : (k : ℕ) (p : Place) (next : Label) → slice_get (behind first.point) k ≡ Some p → guard_next p.instr ≡ Some next → next.0 ≡ 4
  unfolding guard_next
  guard-to zero p next e g = absurd (none-some next (ap (λ (q : Place). guard_next q.instr) (same_Some (place first.point (Known []) failing) p e) ∙ g))
  guard-to (suc zero) p next e g = absurd (none-some next (ap (λ (q : Place). guard_next q.instr) (same_Some (place first.point Unreached six) p e) ∙ g))
  guard-to (suc (suc zero)) p next e g = absurd (none-some next (ap (λ (q : Place). guard_next q.instr) (same_Some (place first.point Unreached swap) p e) ∙ g))
  guard-to (suc (suc (suc zero))) p next e g = sym
      (ap (λ (l : Label). l.0)
      (same_Some (label 4) next (ap (λ (q : Place). guard_next q.instr) (same_Some (place first.point Unreached (Assume guards 0 first.point (label 4))) p e)
      ∙ g)))
  guard-to (suc (suc (suc (suc zero)))) p next e g = absurd
      (none-some next (ap (λ (q : Place). guard_next q.instr) (same_Some (place first.point Unreached (Return (operand.Reg (reg 1)))) p e) ∙ g))
  guard-to (suc (suc (suc (suc (suc k))))) p next e g = absurd (none-some p e)

  last-free : (k : ℕ) (p : Place) → k ≡ 4 → slice_get (behind first.point) k ≡ Some p → guard_next p.instr ≡ None
  unfolding guard_next
  last-free k p at4 e =
      sym (ap (λ (q : Place). guard_next q.instr)
      (same_Some (place first.point Unreached (Return (operand.Reg (reg 1)))) p (subst (λ n. slice_get (behind first.point) n ≡ Some p) at4 e)))

  rows : (x : Label) → RowWithin (behind_code f first.point) 8 x
  rows x = λ p next e g q further e' g'.
      absurd (none-some further (sym (last-free next.0 q (guard-to x.0 p next e g) e') ∙ g'))

  pub behind_sound : Sound P context f (behind_code f first.point)
  behind_sound = dead_sound P f context first sound at fails 2 same_regs rest (lit< tt) (lit< tt) rest-fine unreached rows

-- a fact of the first register fits a function of one parameter
pub first_fits : (o : Option Function) (g : Function) (x : Fact) → o ≡ Some g → g.params ≡ 1 → x.reg.0 ≡ 0 → IsSomeAnd o (λ h. AreFactsFine h.params (x ∷ []))
first_fits o g x found one zeroth =
    subst (λ z. IsSomeAnd z (λ h. AreFactsFine h.params (x ∷ []))) (sym found) (record {
      registers = All-cons (λ (y : Fact). y.reg.0 < g.params) x [] (omega arith) (All-nil (λ (y : Fact). y.reg.0 < g.params));
      increasing = λ k h. absurd (omega arith);
    })
