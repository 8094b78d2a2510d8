-- The codes for the tests are sound.
use Rattle.std.proofs.Common.{◌≡◌, ℕ, suc, true, List, [], ◌∷◌, get_or, Option, Some, None, refl, sym, ap, ◌∙◌, subst, arith}
use Rattle.std.specs.Prelude.{ℤ, negsuc, All, slice_get}
use Rattle.std.specs.Option.{is_none}
use Rattle.std.proofs.lemmas.Option.{none-some}
use Rattle.std.proofs.lemmas.List.Elements.{All-nil}
use Rattle.std.proofs.lemmas.List.Sums.{AllPass-from_list_all}
use Rattle.cj_ir.specs.declared.language.FunId.{FunId}
use Rattle.cj_ir.specs.declared.language.Label.{Label}
use Rattle.cj_ir.specs.declared.language.Program.{Program}
use Rattle.cj_ir.specs.Program.{reg_count}
use Rattle.cj_ir.proofs.ListReads.{all_at}
use Rattle.cj_base.specs.Machine.{Faults, BadAddress}
use Rattle.cj_draft.specs.declared.facts.Fact.{Fact}
use Rattle.cj_draft.specs.declared.facts.Facts.TheVariants.{Unreached, Known}
use Rattle.cj_draft.specs.declared.code.Place.{Place}
use Rattle.cj_draft.specs.declared.code.Code.{Code}
use Rattle.cj_draft.specs.Effects.{Plain, version_effect}
use Rattle.cj_draft.specs.WellNamed.{IsPointFine, IsBackFine, IsPlaceFine}
use Rattle.cj_draft.specs.Arrives.{place_at}
use Rattle.cj_draft.specs.Sound.{RowWithin, Sound, guard_next}
use Rattle.cj_draft.specs.BaseBody.{base_code}
use Rattle.cj_test_passes.specs.ByHand.{label, failing, place}
use Rattle.cj_test_passes.proofs.DeadSound.{regs_of_base, first_fine, dead_sound}
use Rattle.cj_test_passes.specs.Behind.{IsDead, AreBehind, is_free, ends_by, are_ended}

-- ---- rows

free-none : (o : Option Label) → is_none o ≡ true → o ≡ None
free-none None yes_ = refl
free-none (Some l) yes_ = absurd (cc)

ended-next :
    (places : List Place) (o : Option Label) (next : Label) (q : Place) → ends_by places o ≡ true → o ≡ Some next →
    slice_get places next.0 ≡ Some q → guard_next q.instr ≡ None
unfolding ends_by is_free
ended-next places o next q yes_ is e =
    free-none (guard_next q.instr) (sym (ap is_free e) ∙ sym (ap (ends_by places) is) ∙ yes_)

pub ended-rows : (code : Code) → are_ended code.places ≡ true → (x : Label) → RowWithin code 8 x
unfolding are_ended
ended-rows code yes_ x = λ p next e g q further e' g'.
    absurd (none-some further (sym (ended-next code.places (guard_next p.instr) next q (all_at Ended code.places x.0 p all e) g e') ∙ g'))
  where
    Ended : Place → Type 0
    Ended place = ends_by code.places (guard_next place.instr) ≡ true

    all : All Ended code.places
    all = AllPass-from_list_all (λ (place : Place). ends_by code.places (guard_next place.instr)) code.places yes_

-- ---- the code

module _ (P : Program) (f : FunId) (context : List Fact) (first : Place) (sound : Sound P context f (base_code P f))
    (at : place_at (base_code P f) (label 0) ≡ Some first) (four : reg_count P f ≡ 4)
    (fails : (regs m : List ℤ) → version_effect first.instr regs m ≡ Plain (Faults (BadAddress (negsuc 0))))
    (places : List Place) (behind : AreBehind first.point 15 places) (ended : are_ended places ≡ true) where
  same_regs : (base_code P f).regs ≡ 4
  same_regs = sym (regs_of_base P f) ∙ four

  point-fine : IsPointFine P 4 first.point
  point-fine = first_fine P f context first sound at fails 4 same_regs

  abbrev code : List Place → Code
  code all = record { function = f; regs = 4; entry = label 0; places = all }

  abbrev Fine : Place → Type 0
  Fine = IsPlaceFine P 4 16

  fine-dead : (p : Place) → IsDead first.point p → Fine p
  fine-dead p dead =
      subst Fine (sym dead.is) (record { instr = dead.named P point-fine; point = point-fine; facts = tt; backs = All-nil (IsBackFine P 4) })

  fine : All Fine behind.rest
  fine = λ k d lt. fine-dead (get_or behind.rest k d) (behind.dead k d lt)

  unreached : (k : ℕ) (p : Place) → slice_get behind.rest k ≡ Some p → p.facts ≡ Unreached
  unreached k p e = ap (λ (q : Place). q.facts) (all_at (IsDead first.point) behind.rest k p behind.dead e).is

  abbrev laid : List Place
  laid = place first.point (Known []) failing ∷ behind.rest

  rows : (x : Label) → RowWithin (code laid) 8 x
  rows = ended-rows (code laid) (ap are_ended (sym behind.are) ∙ ended)

  pub behind_sound : Sound P context f (code places)
  behind_sound =
      let many = behind.many in
      subst (λ (all : List Place). Sound P context f (code all)) (sym behind.are)
      (dead_sound P f context first sound at fails 4 same_regs behind.rest (omega arith) (omega arith)
      (subst (λ n. All (IsPlaceFine P 4 (suc n)) behind.rest) (sym behind.many) fine) unreached rows)
